-- Changes: a record behind the used words, or the settings anew, leaves what the change leaves.
use Rattle.std.proofs.Common.{◌≡◌, ℕ, ◌+◌, ◌-◌, ◌<◌, ◌≤◌, Bool, true, false, cond, List, [], ◌∷◌, ◌++◌, length, replicate, is_some, is_ok, nat_le, true≢false, Some, None, Ok, Err, Option, Result, sym, refl, ap, ◌∙◌, arith}
use Rattle.std.proofs.lemmas.Bool.Decides.{nat_tests}
use Rattle.std.proofs.lemmas.Bool.{le-leb, cond-true, cond-false}
use Rattle.std.proofs.lemmas.List.{length-append}
use Rattle.frame.specs.Written.{patched}
use Rattle.item.specs.Keys.{well_formed, fits_key}
use Rattle.layer.specs.declared.setting.Setting.{Setting}
use Rattle.layer.specs.Settings.{is_setting, value_under, with_value, without, Ascends, Sound}
use Rattle.layer.specs.SettingsLemmas.{without_with_same, without_none}
use Rattle.store.specs.declared.table.SlotTable.{SlotTable}
use Rattle.store.specs.Slots.{settings_of}
use Rattle.store.specs.SlotsLemmas.{ascends_settings, value_sound, table_shows}
use Rattle.layer.specs.declared.fault.StoreFault.{StoreFault}
use Rattle.layer.specs.declared.fault.StoreFault.TheVariants.{IllFormedKey, Unfit, Full}
use Rattle.layer.specs.Stores.{room, put_answer, remove_answer}
use Rattle.layer.proofs.Stores.{setting_from}
use Rattle.layer.proofs.Walking.{above_zero}
use Rattle.journal.specs.declared.fault.JournalFault.{JournalFault}
use Rattle.journal.specs.Words.{blank, removal_word, setting_words}
use Rattle.journal.specs.Inspecting.{any_record, progress, after_words, inspected, held_or_none, held_in, is_accepted}
use Rattle.journal.specs.Writing.{records_of, filled, used_in, recorded, words_put, words_removed, Change, Written}
use Rattle.journal.proofs.Records.{read_none, read_setting, read_removal}
use Rattle.journal.proofs.Settings.{above_without, all_settings, all_without, length_without, without_twice, few_others, with_without}
use Rattle.journal.proofs.Buffers.{used_le, none_setting, none_removal, records_few, setting_few, accepted, settled_with, appended, rewritten}

module _ (ws : List ℕ) (used : ℕ) (ss : List Setting) (k : ℕ) (rs last : List ℕ) (a : Ascends ss) (sound : Sound ss) (few : length ss ≤ 128) (c : Change ws used ss k rs last) where
  -- behind the used words
  change_appended : length rs ≤ length ws - used → used ≤ length ws → Written (patched used rs ws) ss (used + length rs)
  change_appended fits within =
      let w = appended ws rs c.before ss c.accepted c.solid c.appends (omega (arith, c.counted)) in
      rw c.counted w

  -- or anew
  change_rewritten : Written (filled (length ws) (records_of (without k ss) ++ last)) ss (length (records_of (without k ss) ++ last))
  change_rewritten =
      let acc = accepted ws c.before c.accepted in
      let above = above_zero ss a sound in
      rewritten (length ws) (without k ss) ss last acc.many acc.few (above_without 0 k ss above) (all_without k ss (all_settings 0 ss above sound)) (omega (arith, length_without k ss)) c.lasting c.lasts
      (omega (arith, length-append (records_of (without k ss)) last, c.room, acc.many))

  pub written_behind : (new : List ℕ) (n : ℕ) → length rs ≤ length ws - used → used ≤ length ws → new ≡ patched used rs ws → n ≡ used + length rs → Written new ss n
  written_behind new n fits within e count = rw (e, count) (change_appended fits within)

  pub written_anew : (new : List ℕ) (n : ℕ) → new ≡ filled (length ws) (records_of (without k ss) ++ last) → n ≡ length (records_of (without k ss) ++ last) → Written new ss n
  written_anew new n e count = rw (e, count) change_rewritten

  pub change_room : length (records_of (without k ss)) + length last ≤ length ws
  change_room = omega (arith, c.room, (accepted ws c.before c.accepted).many)

-- the record fits, or it does not
module _ (ws : List ℕ) (used : ℕ) (ss : List Setting) (k : ℕ) (rs last : List ℕ) (c : Change ws used ss k rs last) where
  pub change_within : used ≤ length ws
  change_within = omega (arith, c.counted, used_le ws)

  fits : length rs ≤ length ws - used → nat_le (used_in ws + length rs) (length ws) ≡ true
  fits le = le-leb _ _ (omega (arith, c.counted, used_le ws))

  pub recorded_behind : (new : List ℕ) → length rs ≤ length ws - used → new ≡ patched used rs ws → new ≡ recorded rs (without k ss) last ws
  recorded_behind new le e = e ∙ ap (λ u. patched u rs ws) c.counted ∙ sym (cond-true _ _ _ (fits le))

  pub recorded_anew : (new : List ℕ) → length ws - used < length rs → new ≡ filled (length ws) (records_of (without k ss) ++ last) → new ≡ recorded rs (without k ss) last ws
  recorded_anew new lt e =
      let no : nat_le (used_in ws + length rs) (length ws) ≡ false = leb-no (omega (arith, c.counted, used_le ws)) in
      e ∙ sym (cond-false _ _ _ no)
    where
      leb-no : length ws < used_in ws + length rs → nat_le (used_in ws + length rs) (length ws) ≡ false
      leb-no h = grind (arith, nat_tests)

-- Putting and removing are changes

ok≢err : (f : StoreFault) → ◌≡◌ {A = Result (Unit {0}) StoreFault} (Ok tt) (Err f) → ⊥
ok≢err f e = cc

put_granted : (k v : ℕ) (ss : List Setting) → Ok tt ≡ put_answer true k v ss → (is_setting k v ≡ true) × (room k ss ≡ true)
put_granted k v ss e = go (well_formed k) (fits_key k v) (room k ss) refl refl refl e
  where
    go : (w f r : Bool) → well_formed k ≡ w → fits_key k v ≡ f → room k ss ≡ r → ◌≡◌ {A = Result (Unit {0}) StoreFault} (Ok tt) (cond w (cond f (cond r (Ok tt) (Err Full)) (Err Unfit)) (Err IllFormedKey)) → (is_setting k v ≡ true) × (room k ss ≡ true)
    go true true true w f r e = (setting_from k v w f, r)
    go true true false w f r e = absurd (ok≢err Full e)
    go true false r2 w f r e = absurd (ok≢err Unfit e)
    go false f2 r2 w f r e = absurd (ok≢err IllFormedKey e)

remove_granted : (k : ℕ) → Ok tt ≡ remove_answer true k → well_formed k ≡ true
remove_granted k e = go (well_formed k) e
  where
    go : (w : Bool) → ◌≡◌ {A = Result (Unit {0}) StoreFault} (Ok tt) (cond w (Ok tt) (Err IllFormedKey)) → w ≡ true
    go true e = refl
    go false e = absurd (ok≢err IllFormedKey e)

-- t is the table before, and ss what it holds after
pub put_change : (t : SlotTable) (ws : List ℕ) (used : ℕ) (ss : List Setting) (k v : ℕ) (rs : List ℕ) → inspected ws ≡ Ok (settings_of t.slots) → used ≡ used_in ws
    → Ok tt ≡ put_answer true k v (settings_of t.slots) → ss ≡ with_value k v (settings_of t.slots) → rs ≡ setting_words k v → Change ws used ss k rs rs
put_change t ws used ss k v rs e counted granted now by =
    let before = settings_of t.slots in
    let a = ascends_settings t.slots in
    let sound : Sound before = λ j x. value_sound j x t.slots t.fit in
    let few = (table_shows t.slots t.whole t.distinct).few in
    let is = (put_granted k v (settings_of t.slots) granted).0 in
    let can = (put_granted k v (settings_of t.slots) granted).1 in
    let others : without k ss ≡ without k before = ap (without k) now ∙ without_with_same k v before in
    let fewer = few_others k before few can in
    let room_there : room k (without k before) ≡ true = grind (arith, nat_tests) in
    let again : with_value k v (without k before) ≡ ss = with_without 0 k v before (above_zero before a sound) ∙ sym now in
    let solid : used_in rs ≡ length rs = rw by (none_setting k v) in
    record {
      before = before;
      accepted = e;
      counted = counted;
      appends = λ at. ap (λ (xs : List ℕ). after_words at xs (Ok (progress before any_record))) by ∙ read_setting at k v before is can ∙ ap (λ (xs : List Setting). Ok (progress xs any_record)) (sym now);
      solid = solid;
      lasts = λ at. ap (λ (xs : List ℕ). after_words at xs (Ok (progress (without k ss) any_record))) by ∙ ap (λ (xs : List Setting). after_words at (setting_words k v) (Ok (progress xs any_record))) others
          ∙ read_setting at k v (without k before) is room_there ∙ ap (λ (xs : List Setting). Ok (progress xs any_record)) again;
      lasting = solid;
      room = omega (arith, records_few (without k ss), ap length others, fewer, ap length by, setting_few k v);
    }

pub remove_change : (t : SlotTable) (ws : List ℕ) (used : ℕ) (ss : List Setting) (k : ℕ) (w : ℕ) → inspected ws ≡ Ok (settings_of t.slots) → used ≡ used_in ws
    → Ok tt ≡ remove_answer true k → ss ≡ without k (settings_of t.slots) → w ≡ removal_word k → Change ws used ss k (w ∷ []) []
unfolding used_in
remove_change t ws used ss k x e counted granted now by =
    let before = settings_of t.slots in
    let few = (table_shows t.slots t.whole t.distinct).few in
    let w = remove_granted k granted in
    let others : without k ss ≡ ss = ap (without k) now ∙ without_twice k before ∙ sym now in
    record {
      before = before;
      accepted = e;
      counted = counted;
      appends = λ at. ap (λ r. after_words at (r ∷ []) (Ok (progress before any_record))) by ∙ read_removal at k before w ∙ ap (λ (xs : List Setting). Ok (progress xs any_record)) (sym now);
      solid = rw by (none_removal k);
      lasts = λ at. read_none at _ ∙ ap (λ (xs : List Setting). Ok (progress xs any_record)) others;
      lasting = refl;
      room = omega (arith, records_few (without k ss), length_without k ss, ap length now, length_without k before);
    }

-- and what they write

pub put_recorded : (t : SlotTable) (ws new : List ℕ) (ss : List Setting) (k v : ℕ) (rs : List ℕ) → new ≡ recorded rs (without k ss) rs ws → inspected ws ≡ Ok (settings_of t.slots)
    → Ok tt ≡ put_answer true k v (settings_of t.slots) → ss ≡ with_value k v (settings_of t.slots) → rs ≡ setting_words k v → new ≡ words_put k v ws
put_recorded t ws new ss k v rs e read granted now by =
    let held : settings_of t.slots ≡ held_in ws = sym (ap held_or_none read) in
    let can : is_ok (put_answer (is_accepted ws) k v (held_in ws)) ≡ true = ap (λ r. is_ok (put_answer (is_ok r) k v (held_or_none r))) read ∙ sym (ap is_ok granted) in
    e ∙ ap (λ (xs : List Setting). recorded rs xs rs ws) (ap (without k) now ∙ without_with_same k v (settings_of t.slots) ∙ ap (without k) held) ∙ ap (λ (r : List ℕ). recorded r (without k (held_in ws)) r ws) by
    ∙ sym (cond-true _ _ _ can)

pub remove_recorded : (t : SlotTable) (ws new : List ℕ) (ss : List Setting) (k w : ℕ) (o : Option ℕ) → new ≡ recorded (w ∷ []) (without k ss) [] ws → inspected ws ≡ Ok (settings_of t.slots)
    → Ok tt ≡ remove_answer true k → ss ≡ without k (settings_of t.slots) → w ≡ removal_word k → o ≡ value_under k (settings_of t.slots) → true ≡ is_some o
    → new ≡ words_removed k ws
remove_recorded t ws new ss k w o e read granted now by is some =
    let held : settings_of t.slots ≡ held_in ws = sym (ap held_or_none read) in
    let can : is_ok (remove_answer (is_accepted ws) k) ≡ true = ap (λ r. is_ok (remove_answer (is_ok r) k)) read ∙ sym (ap is_ok granted) in
    let there : is_some (value_under k (held_in ws)) ≡ true = ap (λ (xs : List Setting). is_some (value_under k xs)) (sym held) ∙ ap is_some (sym is) ∙ sym some in
    e ∙ ap (λ (xs : List Setting). recorded (w ∷ []) xs [] ws) (ap (without k) now ∙ without_twice k (settings_of t.slots) ∙ ap (without k) held) ∙ ap (λ r. recorded (r ∷ []) (without k (held_in ws)) [] ws) by
    ∙ sym (cond-true _ _ _ there) ∙ sym (cond-true _ _ _ can)

-- nothing is removed where nothing is held
pub not_held : (k : ℕ) (ss now : List Setting) (o : Option ℕ) → now ≡ without k ss → o ≡ value_under k ss → false ≡ is_some o → now ≡ ss
not_held k ss now None e is none = e ∙ without_none k ss (sym is)
not_held k ss now (Some v) e is none = absurd (true≢false (sym none))

-- all words blank
pub blank_all : (ws new : List ℕ) → is_accepted ws ≡ true → new ≡ replicate (length ws) blank → Written new [] 0
unfolding used_in
blank_all ws new ok is = go (inspected ws) refl ok
  where
    go : (r : Result (List Setting) JournalFault) → inspected ws ≡ r → is_ok r ≡ true → Written new [] 0
    go (Ok before) e ok =
        let acc = accepted ws before e in
        rw is (settled_with [] (length ws) [] (read_none 0 (Ok (progress [] any_record))) refl (omega (arith, acc.many)) (omega (arith, acc.few)))
    go (Err f) e ok = absurd (true≢false (sym ok))
