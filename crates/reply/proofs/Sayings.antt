-- What a frame says, by its parts.
use Rattle.std.proofs.Common.{Ok, ◌≡◌, ℕ, ◌+◌, ◌-◌, ◌*◌, ◌≤◌, ◌&&◌, eqb, leb, List, length, get_or, take, drop, Result, sym, ap, ◌∙◌, arith}
use Rattle.std.proofs.lemmas.List.{take_rest}
use Rattle.std.proofs.lemmas.Bool.{le-leb, eq-eqb, and_from, cond-true}
use Rattle.frame.specs.Frames.{Message}
use Rattle.layer.specs.declared.setting.Setting.{Setting}
use Rattle.reply.specs.declared.fault.ReadFault.{ReadFault}
use Rattle.reply.specs.Pairs.{pairs_read}
use Rattle.reply.specs.Messages.{values, values_or_fault, values_in, values_said}

pub values_are : (place : ℕ) (m : Message) → 4 ≤ length m.payload → get_or m.payload 0 0 ≡ 1 → values_said place m ≡ values_in place m.payload
unfolding values_said
values_are place m long one =
    cond-true (leb 4 (length m.payload) && eqb (get_or m.payload 0 0) 1) _ _ (and_from _ _ (le-leb 4 (length m.payload) long) (eq-eqb (get_or m.payload 0 0) 1 one))

-- by the pairs that were read of the bytes behind the head
module _ (place : ℕ) (m : Message) (long : 4 ≤ length m.payload) (one : get_or m.payload 0 0 ≡ 1) (r : Result (List Setting) ReadFault)
    (e : r ≡ pairs_read (place + 4) (take (length m.payload - 4) (drop 4 m.payload))) where
  pub values_by : (position : ℕ) → position ≡ get_or m.payload 2 0 + get_or m.payload 3 0 * 256 → values_or_fault (get_or m.payload 1 0) position r ≡ values_said place m
  values_by position at =
      let same : position ≡ get_or m.payload 2 0 + 256 * get_or m.payload 3 0 = omega arith in
      ap (λ (n : ℕ). values_or_fault (get_or m.payload 1 0) n r) same
      ∙ ap (values_or_fault (get_or m.payload 1 0) (get_or m.payload 2 0 + 256 * get_or m.payload 3 0)) (e ∙ ap (pairs_read (place + 4)) (take_rest m.payload 4))
      ∙ sym (values_are place m long one)

  -- and by all of them, or the fault
  pub values_ok : (position : ℕ) (ss : List Setting) → r ≡ Ok ss → position ≡ get_or m.payload 2 0 + get_or m.payload 3 0 * 256 → Ok (values (get_or m.payload 1 0) position ss) ≡ values_said place m
  values_ok position ss is at = sym (ap (values_or_fault (get_or m.payload 1 0) position) is) ∙ values_by position at
