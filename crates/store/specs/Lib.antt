pub mod Catalogued
pub mod Slots
pub mod SlotsLemmas
pub mod CataloguedLemmas
