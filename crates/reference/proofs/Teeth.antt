-- Receivers that are wrong break the law: each time one of its sentences computes to a falsehood.
use Rattle.std.proofs.Common.{◌≡◌, ℕ, List, [], ◌∷◌, length, Some, sym, refl, ap, arith}
use Rattle.reference.specs.Law.{taken, tellings, AnsweredOut, Name, verdicts_in, OneVerdict, Throughout, granted, queued, is_loss, is_restart, bbr_back, flash_back, ram_back, ShownAsFound}
use Rattle.reference.specs.Teeth.{Teeth}
use Rattle.reference.proofs.Computing.{everything}
use Rattle.std.proofs.lemmas.Option.{none-some}

empty : {A : Type 0} (x : A) (xs : List A) → x ∷ xs ≡ [] → ⊥
empty x xs e = cc

-- two numbers in one place
differs : (a b : ℕ) → (a ≡ b → ⊥) → Some a ≡ Some b → ⊥
differs a b apart e = let z : a ≡ b = cc in apart z

head_id : List Name → ℕ
head_id [] = 0
head_id (x ∷ xs) = x.id

pub teeth : Teeth
unfolding head_id everything taken tellings AnsweredOut verdicts_in OneVerdict Throughout granted queued is_loss is_restart bbr_back flash_back ram_back ShownAsFound
teeth =
    record {
      early = λ ram bbr flash l. empty _ _ (l.telling.0.all_told tt);
      first_only = λ bbr flash l. differs 0 2 (λ e. omega arith) (l.ram_holds 0x2091033d);
      untouched = λ ram flash l. none-some _ (l.bbr_holds 0x20510001);
      twice = λ ram bbr flash l. omega (arith, ap length l.telling.0.in_order.1);
      other = λ ram bbr flash l. omega (arith, ap head_id l.telling.1.0.in_order.1);
      no_verdict = λ ram bbr flash l. empty _ _ (sym (l.verdicts.0.0 refl));
      two_verdicts = λ ram bbr flash l. omega (arith, ap length (l.verdicts.0.0 refl));
      not_stacked = λ bbr flash l. differs 0x42 65 (λ e. omega arith) (l.ram_holds 0x20510001);
      not_lost = λ ram flash l. none-some _ (sym (l.bbr_holds 0x20510001));
      stale = λ ram bbr flash l. differs 65 0x42 (λ e. omega arith) l.showing.0;
      unnamed = λ ram bbr flash l. none-some _ l.showing.0;
    }
