use Rattle.std.proofs.Common.{◌∙◌}
use Rattle.page.proofs.Drafted.{named_more, named_all}
use Rattle.page.proofs.draft.Draft.add_named.Goals as goal

pub loop-item-preserved : goal.loop-item-preserved
loop-item-preserved g c ks = let next = c.in-Some.ensures.next in named_more _ _ _ _ _ _ _ next.2 c.add_held.ensures ks ∙ c.loop-item.invariant ks

pub returns : goal.returns
returns g c ks = named_all _ c.args.entries.now _ c.loop-item.from _ c.in_default.ensures.next ks ∙ c.loop-item.invariant ks
