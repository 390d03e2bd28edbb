-- From the code's judgement of a frame to the reference's.
use Rattle.std.proofs.Common.{◌≡◌, ℕ, ◌<◌, ◌≤◌, Bool, true, false, cond, not, ◌||◌, eqb, ltb, List, length, get_or, take, drop, Some, None, Ok, Err, Option, Result, sym, refl, ap, ◌∙◌, subst, arith}
use Rattle.std.proofs.lemmas.Bool.{cond-true, cond-false, cond_both, lt-ltb, le-ltb}
use Rattle.std.proofs.lemmas.List.{take_at}
use Rattle.frame.specs.Frames.{Message, carrying}
use Rattle.frame.proofs.Frames.{frame_length}
use Rattle.reference.proofs.Verdicts.{page_length}
use Rattle.catalogue.specs.declared.entries.Entry.{Entry}
use Rattle.rule.specs.Rules.{Finding}
use Rattle.request.specs.declared.change.Change.{Change as Slot}
use Rattle.page.specs.Pages.{page_frame, in_front_if_made}
use Rattle.reference.specs.declared.refusal.Refusal.{Refusal}
use Rattle.reference.specs.declared.refusal.Refusal.TheVariants.{UnknownVersion, OtherId, ShortPayload}
use Rattle.reference.specs.Stores.{Settings}
use Rattle.reference.specs.Requests.{Catalogue, ok_map, keys_of, configuration_class, valset, valget, valdel}
use Rattle.reference.specs.Receiver.{State, page, reply, unless, paged, and_then, layer_of, judged_get, judged_change, judged}
use Rattle.reference.specs.Receiver.{Plan as Planned}
use Rattle.receiver.specs.declared.transaction.Granted.{Granted}
use Rattle.receiver.specs.declared.transaction.Granted.TheVariants.{Reply}
use Rattle.receiver.specs.Plans.{page_over, gotten, Judged}

-- A get of the reference replies with bytes, or is refused

keys_paged : (ss : Settings) (p : List ℕ) (r : Result (List ℕ) Refusal) → and_then r (λ ks. Ok (reply (page_frame ss p ks))) ≡ ok_map reply (ok_map (page_frame ss p) r)
keys_paged ss p (Ok ks) = refl
keys_paged ss p (Err e) = refl

over_layer : (cat : Catalogue) (o : Option Settings) (p : List ℕ) → 4 ≤ length p → paged cat o p ≡ ok_map reply (page_over cat o p)
over_layer cat None p long = refl
over_layer cat (Some ss) p long =
    keys_paged ss p (keys_of cat p) ∙ ap (ok_map reply) (sym (cond-false (ltb (length p) 4) (Err ShortPayload) (ok_map (page_frame ss p) (keys_of cat p)) (le-ltb (length p) 4 long)))

get_is : (cat : Catalogue) (s : State) (m : Message) → 4 ≤ length m.payload → judged_get cat s m ≡ ok_map reply (gotten cat s m.payload)
unfolding judged_get unless
get_is cat s m long = go (ltb 0 (get_or m.payload 0 0))
  where
    go : (b : Bool) → unless b UnknownVersion (paged cat (layer_of cat s (get_or m.payload 1 0)) m.payload) ≡ ok_map reply (cond b (Err UnknownVersion) (page_over cat (layer_of cat s (get_or m.payload 1 0)) m.payload))
    go true = refl
    go false = over_layer cat (layer_of cat s (get_or m.payload 1 0)) m.payload long

-- and its bytes are at most those of a frame

abbrev Few : Result (List ℕ) Refusal → Type 0
Few (Ok bs) = length bs ≤ 780
Few (Err r) = Unit {0}

frame_few : (ss : Settings) (p ks : List ℕ) → length (page_frame ss p ks) ≤ 780
frame_few ss p ks = let n = frame_length (page ss p ks) in let few = page_length ss p ks in omega arith

few_keys : (ss : Settings) (p : List ℕ) (r : Result (List ℕ) Refusal) → Few (ok_map (page_frame ss p) r)
few_keys ss p (Ok ks) = frame_few ss p ks
few_keys ss p (Err e) = tt

few_over : (cat : Catalogue) (o : Option Settings) (p : List ℕ) → Few (page_over cat o p)
few_over cat None p = tt
few_over cat (Some ss) p = cond_both (ltb (length p) 4) _ _ Few (λ _. tt) (λ _. few_keys ss p (keys_of cat p))

few_gotten : (cat : Catalogue) (s : State) (p : List ℕ) → Few (gotten cat s p)
few_gotten cat s p = cond_both (ltb 0 (get_or p 0 0)) _ _ Few (λ _. tt) (λ _. few_over cat (layer_of cat s (get_or p 1 0)) p)

-- what the code answers to a get

module _ (es : List Entry) (slots : List (Option Slot)) (old out : List ℕ) where
  reply_judged : (G : Result (List ℕ) Refusal) (n : ℕ) → Few G → Ok n ≡ ok_map length G → out ≡ in_front_if_made G old → Judged es slots old out (ok_map reply G) (Ok (Reply n))
  reply_judged (Ok bs) n few e is =
      let same : n ≡ length bs = cc in
      record {
        value = ap (λ (l : List ℕ). Ok (reply l)) (ap (take n) is ∙ take_at bs (drop (length bs) old) n (sym same));
        out_is = is;
        length_is = same;
        few = omega arith;
      }
  reply_judged (Err r) n few e is = let z : ◌≡◌ {A = ℕ} 0 1 = cc in absurd (omega arith)

  reply_refused : (G : Result (List ℕ) Refusal) (f : Refusal) → Err f ≡ ok_map length G → out ≡ in_front_if_made G old → Judged es slots old out (ok_map reply G) (Err f)
  reply_refused (Ok bs) f e is = let z : ◌≡◌ {A = ℕ} 0 1 = cc in absurd (omega arith)
  reply_refused (Err r) f e is = record { value = let same : f ≡ r = cc in ap Err same; out_is = is; length_is = refl; few = omega arith }

module _ (cat : Catalogue) (rule : Finding) (s : State) (id : ℕ) (p : List ℕ) (slots : List (Option Slot)) (old : List ℕ) where
  abbrev request : Message
  request = carrying configuration_class id p

  abbrev pub either : Result Planned Refusal
  either = cond (eqb id valget) (judged_get cat s request) (judged_change cat rule s request)

  as_get : (out : List ℕ) (r : Result Granted Refusal) → 4 ≤ length p → (b : Bool) → b ≡ eqb id valget → b ≡ true → Judged cat slots old out (ok_map reply (gotten cat s p)) r → Judged cat slots old out either r
  as_get out r long b e is j = subst (λ (x : Result Planned Refusal). Judged cat slots old out x r) (sym (cond-true (eqb id valget) _ _ (sym e ∙ is) ∙ get_is cat s request long)) j

  pub got : (out : List ℕ) (n : ℕ) → 4 ≤ length p → (b : Bool) → b ≡ eqb id valget → b ≡ true → Ok n ≡ ok_map length (gotten cat s p) → out ≡ in_front_if_made (gotten cat s p) old → Judged cat slots old out either (Ok (Reply n))
  got out n long b told is e o = as_get out (Ok (Reply n)) long b told is (reply_judged cat slots old out (gotten cat s p) n (few_gotten cat s p) e o)

  pub not_got : (out : List ℕ) (f : Refusal) → 4 ≤ length p → (b : Bool) → b ≡ eqb id valget → b ≡ true → Err f ≡ ok_map length (gotten cat s p) → out ≡ in_front_if_made (gotten cat s p) old → Judged cat slots old out either (Err f)
  not_got out f long b told is e o = as_get out (Err f) long b told is (reply_refused cat slots old out (gotten cat s p) f e o)

  -- the checks before all others
  pub judged_request : (out : List ℕ) (r : Result Granted Refusal) (b : Bool) → b ≡ (eqb id valset || (eqb id valget || eqb id valdel)) → b ≡ true → 4 ≤ length p
      → Judged cat slots old out either r → Judged cat slots old out (judged cat rule s request) r
  unfolding judged unless
  judged_request out r b e on long j =
      subst (λ (b : Bool). Judged cat slots old out (unless (not b) OtherId (unless (ltb (length p) 4) ShortPayload either)) r) (sym on ∙ e)
      (subst (λ (b : Bool). Judged cat slots old out (unless b ShortPayload either) r) (sym (le-ltb (length p) 4 long)) j)

  pub judged_short : (b : Bool) → b ≡ (eqb id valset || (eqb id valget || eqb id valdel)) → b ≡ true → length p < 4 → Judged cat slots old old (judged cat rule s request) (Err ShortPayload)
  unfolding judged unless
  judged_short b e on short =
      subst (λ (b : Bool). Judged cat slots old old (unless (not b) OtherId (unless (ltb (length p) 4) ShortPayload either)) (Err ShortPayload)) (sym on ∙ e)
      (subst (λ (b : Bool). Judged cat slots old old (unless b ShortPayload either) (Err ShortPayload)) (sym (lt-ltb (length p) 4 short))
      (record { value = refl; out_is = refl; length_is = refl; few = omega arith }))

  pub judged_other : (b : Bool) → b ≡ (eqb id valset || (eqb id valget || eqb id valdel)) → b ≡ false → Judged cat slots old old (judged cat rule s request) (Err OtherId)
  unfolding judged unless
  judged_other b e off =
      subst (λ (b : Bool). Judged cat slots old old (unless (not b) OtherId (unless (ltb (length p) 4) ShortPayload either)) (Err OtherId)) (sym off ∙ e)
      (record { value = refl; out_is = refl; length_is = refl; few = omega arith })
