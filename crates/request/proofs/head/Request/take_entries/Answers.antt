use Rattle.std.proofs.Common.{◌≡◌, ◌≢◌, ◌+◌, ◌-◌, ◌∙◌, rules, arith}
use Rattle.std.proofs.lemmas.Result.{err_from_is_err_and}
use Rattle.request.proofs.Faults.{taken_is, refused_is}
use Rattle.request.proofs.Walks.{data_more, data_fault}
use Rattle.request.proofs.head.Request.take_entries.Goals as goal

pub returns-in_err-place-clause-value : goal.returns-in_err-place-clause-value
returns-in_err-place-clause-value c =
    let h = c.in_err-place.ensures in
    let f = refused_is c.take_entry-taken.result c.in_err-place.field-0.0 _ _ c.loop-entry.place h.variant h.cases (λ e q. search rules) in
    let p = err_from_is_err_and c.from_residual.result c.from_residual.ensures.1 in
    rw (p.1, p.2)
    (data_fault _ _ _ _ _ _ _ c.loop-entry.invariant.0 _ _ _ _ c.if-place-self.false (let pos : 64 - c.loop-entry._entry ≢ 0 = omega arith in pos)
    (rw f.1 at c.take_entry-taken.ensures) f.2)

pub returns-in_err-place-clause-behind : goal.returns-in_err-place-clause-behind
returns-in_err-place-clause-behind c i le = c.take_entry-taken.ensures.behind i le ∙ c.loop-entry.invariant.1 i le

pub loop-entry-preserved : goal.loop-entry-preserved
loop-entry-preserved c =
    let h = c.in_ok-place.ensures in
    let t = rw (taken_is c.take_entry-taken.result c.in_ok-place.field-0 _ h.variant h.cases) at c.take_entry-taken.ensures in
    let pos : 64 - c.loop-entry._entry ≢ 0 = omega arith in
    let next : 64 - c.loop-entry._entry - 1 ≡ 64 - (c.loop-entry._entry + 1) = omega arith in (
      rw (← next) (data_more _ _ _ _ _ _ _ c.loop-entry.invariant.0 _ _ _ c.if-place-self.false pos t),
      λ i le. t.behind i le ∙ c.loop-entry.invariant.1 i le,
    )
