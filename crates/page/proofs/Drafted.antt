-- Laws of a draft: its beginning, one pair more, what a key and what a number of the wire adds, and its frame.
use Rattle.std.proofs.Common.{◌≡◌, ℕ, suc, ◌+◌, ◌-◌, ◌*◌, ◌<◌, ◌≤◌, List, [], ◌∷◌, ◌++◌, map, length, get_or, take, drop, Some, None, Ok, Err, Option, Result, sym, refl, ap, ◌∙◌, ap₂, append_assoc, append-nil, arith}
use Rattle.std.proofs.lemmas.List.{take_all, drop_all}
use Rattle.frame.specs.Frames.{frame_bytes, carrying}
use Rattle.item.specs.declared.selector.Selector.{Selector}
use Rattle.item.specs.Values.{number}
use Rattle.layer.specs.declared.setting.Setting.{Setting}
use Rattle.layer.specs.Settings.{setting, value_under}
use Rattle.catalogue.specs.declared.entries.Entry.{Entry}
use Rattle.catalogue.specs.Catalogues.{blank, key_at, named_from}
use Rattle.reference.specs.declared.refusal.Refusal.{Refusal}
use Rattle.reference.specs.Requests.{configuration_class, valget, ok_map, keys_named, keys_of}
use Rattle.reference.specs.Receiver.{pair_under, held_pairs, pair_bytes, pairs_bytes, position_of, page_pairs, page}
use Rattle.page.specs.declared.draft.Draft.{Draft}
use Rattle.page.specs.Drafts.{payload_of, finished, finished_by}
use Rattle.page.specs.Pages.{page_frame}
use Rattle.request.proofs.Named.{keys_named_lem}
use Rattle.page.specs.Walks.{keys_behind}

-- The beginning

pub position_is : (bs : List ℕ) → length bs ≡ 2 → get_or bs 0 0 + 256 * get_or bs 1 0 ≡ number bs
unfolding number
position_is [] e = absurd (omega arith)
position_is (a ∷ []) e = absurd (omega arith)
position_is (a ∷ b ∷ []) e = omega arith
position_is (a ∷ b ∷ c ∷ bs) e = absurd (omega arith)

pub head_sent : (p : List ℕ) → 4 ≤ length p → 1 ∷ get_or p 1 0 ∷ get_or p 2 0 ∷ get_or p 3 0 ∷ [] ≡ 1 ∷ take 3 (drop 1 p)
head_sent [] le = absurd (omega arith)
head_sent (a ∷ []) le = absurd (omega arith)
head_sent (a ∷ b ∷ []) le = absurd (omega arith)
head_sent (a ∷ b ∷ c ∷ []) le = absurd (omega arith)
head_sent (a ∷ b ∷ c ∷ d ∷ p) le = refl

pub position_sent : (p : List ℕ) → 4 ≤ length p → get_or p 2 0 ∷ get_or p 3 0 ∷ [] ≡ take 2 (drop 2 p)
position_sent [] le = absurd (omega arith)
position_sent (a ∷ []) le = absurd (omega arith)
position_sent (a ∷ b ∷ []) le = absurd (omega arith)
position_sent (a ∷ b ∷ c ∷ []) le = absurd (omega arith)
position_sent (a ∷ b ∷ c ∷ d ∷ p) le = refl

-- One pair more

pub finished_skip : (d e : Draft) (s : Setting) → 0 < d.skip → payload_of e ≡ payload_of d → e.skip ≡ d.skip - 1 → e.left ≡ d.left → (ss : List Setting) → finished e ss ≡ finished d (s ∷ ss)
unfolding finished
finished_skip d e s lt same skip left ss =
    let more : d.skip ≡ suc e.skip = omega arith in
    let rest : drop d.skip (s ∷ ss) ≡ drop e.skip ss = ap (λ n. drop n (s ∷ ss)) more in
    cc

pub finished_put : (d e : Draft) (s : Setting) → d.skip ≤ 0 → 0 < d.left → payload_of e ≡ payload_of d ++ pair_bytes s → e.skip ≡ d.skip → e.left ≡ d.left - 1
    → (ss : List Setting) → finished e ss ≡ finished d (s ∷ ss)
unfolding finished pairs_bytes
finished_put d e s le lt put skip left ss =
    let none : d.skip ≡ 0 = omega arith in
    let none' : e.skip ≡ 0 = omega arith in
    let more : d.left ≡ suc e.left = omega arith in
    let old : pairs_bytes (take d.left (drop d.skip (s ∷ ss))) ≡ pair_bytes s ++ pairs_bytes (take e.left ss) = ap₂ (λ (m n : ℕ). pairs_bytes (take m (drop n (s ∷ ss)))) more none in
    let new : pairs_bytes (take e.left (drop e.skip ss)) ≡ pairs_bytes (take e.left ss) = ap (λ n. pairs_bytes (take e.left (drop n ss))) none' in
    ap₂ (λ (a b : List ℕ). a ++ b) put new ∙ append_assoc (payload_of d) (pair_bytes s) (pairs_bytes (take e.left ss)) ∙ sym (ap (λ (b : List ℕ). payload_of d ++ b) old)

pub finished_full : (d : Draft) (s : Setting) → d.skip ≤ 0 → d.left ≤ 0 → (ss : List Setting) → finished d ss ≡ finished d (s ∷ ss)
unfolding finished
finished_full d s le none ss =
    let z : d.left ≡ 0 = omega arith in
    ap (λ n. payload_of d ++ pairs_bytes (take n (drop d.skip ss))) z ∙ sym (ap (λ n. payload_of d ++ pairs_bytes (take n (drop d.skip (s ∷ ss)))) z)

finished_none : (d : Draft) → finished d [] ≡ payload_of d
unfolding finished pairs_bytes
finished_none d =
    ap (λ (ss : List Setting). payload_of d ++ pairs_bytes (take d.left ss)) (drop_all d.skip [] (omega arith))
    ∙ ap (λ (ss : List Setting). payload_of d ++ pairs_bytes ss) (take_all d.left [] (omega arith))
    ∙ append-nil (payload_of d)

-- What a key adds

pub held_some : (ss : List Setting) (k v : ℕ) (d e : Draft) → Some v ≡ value_under k ss → ((ps : List Setting) → finished e ps ≡ finished d (setting k v ∷ ps))
    → (ks : List ℕ) → finished_by ss e ks ≡ finished_by ss d (k ∷ ks)
unfolding held_pairs
held_some ss k v d e h step ks = step (held_pairs ss ks) ∙ ap (λ (o : Option ℕ). finished d (pair_under k o (held_pairs ss ks))) h

pub held_none : (ss : List Setting) (k : ℕ) (d : Draft) → None ≡ value_under k ss → (ks : List ℕ) → finished_by ss d ks ≡ finished_by ss d (k ∷ ks)
unfolding held_pairs
held_none ss k d h ks = ap (λ (o : Option ℕ). finished d (pair_under k o (held_pairs ss ks))) h

-- What a number of the wire adds, item by item

pub named_more : (ss : List Setting) (es : List Entry) (s : Selector) (from i : ℕ) (d e : Draft) → named_from s from es ≡ i ∷ named_from s (i + 1) es
    → ((ks : List ℕ) → finished_by ss e ks ≡ finished_by ss d ((get_or es i blank).key ∷ ks))
    → (ks : List ℕ) → finished_by ss e (keys_named s (drop (i + 1) es) ++ ks) ≡ finished_by ss d (keys_named s (drop from es) ++ ks)
named_more ss es s from i d e h step ks =
    let keys : keys_named s (drop from es) ≡ key_at es i ∷ keys_named s (drop (i + 1) es) =
    keys_named_lem s es from ∙ ap (map (key_at es)) h ∙ ap (λ (js : List ℕ). key_at es i ∷ js) (sym (keys_named_lem s es (i + 1))) in
    step (keys_named s (drop (i + 1) es) ++ ks) ∙ ap (λ (js : List ℕ). finished_by ss d (js ++ ks)) (sym keys)

pub named_all : (ss : List Setting) (es : List Entry) (s : Selector) (from : ℕ) (d : Draft) → named_from s from es ≡ [] → (ks : List ℕ) → finished_by ss d ks ≡ finished_by ss d (keys_named s (drop from es) ++ ks)
named_all ss es s from d h ks = ap (λ (js : List ℕ). finished_by ss d (js ++ ks)) (sym (keys_named_lem s es from ∙ ap (map (key_at es)) h))

-- The frame

-- of the page once what a layer holds under these keys is added
abbrev pub frame_by : List Setting → Draft → List ℕ → List ℕ
frame_by ss d ks = frame_bytes (carrying configuration_class valget (finished_by ss d ks))

same_made : {A : Type 0} (f g : List ℕ → A) (r : Result (List ℕ) Refusal) → ((ks : List ℕ) → f ks ≡ g ks) → ok_map f r ≡ ok_map g r
same_made f g (Ok ks) h = ap Ok (h ks)
same_made f g (Err e) h = refl

pub frames_start : (es : List Entry) (ss : List Setting) (p bs : List ℕ) (d : Draft) (n : ℕ) → payload_of d ≡ 1 ∷ take 3 (drop 1 p) → d.skip ≡ position_of p → d.left ≡ 64
    → n ≡ 0 → bs ≡ drop 4 p → ok_map (frame_by ss d) (keys_behind es n bs) ≡ ok_map (page_frame ss p) (keys_of es p)
unfolding keys_of page finished
frames_start es ss p bs d n head skip left none rest =
    ap₂ (λ (m : ℕ) (l : List ℕ). ok_map (frame_by ss d) (keys_behind es m l)) none rest
    ∙ same_made (frame_by ss d) (page_frame ss p) (keys_of es p)
    (λ ks.
    let pairs : pairs_bytes (take d.left (drop d.skip (held_pairs ss ks))) ≡ pairs_bytes (page_pairs (position_of p) (held_pairs ss ks)) =
    ap₂ (λ (m n : ℕ). pairs_bytes (take m (drop n (held_pairs ss ks)))) left skip in
    ap (λ (bs : List ℕ). frame_bytes (carrying configuration_class valget bs)) (ap₂ (λ (a b : List ℕ). a ++ b) head pairs))

pub frame_end : (ss : List Setting) (d : Draft) → frame_bytes (carrying configuration_class valget (payload_of d)) ≡ frame_by ss d []
unfolding held_pairs
frame_end ss d = ap (λ (bs : List ℕ). frame_bytes (carrying configuration_class valget bs)) (sym (finished_none d))
