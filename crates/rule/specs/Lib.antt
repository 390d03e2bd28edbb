pub mod Rules
pub mod RulesLemmas
