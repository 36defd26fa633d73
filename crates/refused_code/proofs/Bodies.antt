-- A fault of code that is answered stands in the code item.
use Rattle.std.proofs.Common.{◌≡◌, ◌≤◌, ◌<◌, ℕ, zero, suc, ◌+◌, ◌-◌, ◌*◌, true, false, ltb, eqb, Bool, List, [], ◌∷◌, length, drop, Option, Some, None, Result, Ok, Err, refl, sym, ap, subst, ◌∙◌, arith, true≢false}
use Rattle.std.specs.Prelude.{◌&&◌, slice_get, slice_index, not}
use Rattle.insn_set.specs.declared.form.Insn.{Insn}
use Rattle.program_model.specs.declared.body.Region.{Region}
use Rattle.code_read.specs.declared.fault.CodeFault.{CodeFault}
use Rattle.code_read.specs.declared.fault.CodeFault.TheVariants as code
use Rattle.code_read.specs.declared.sizes.Sizes.{Sizes}
use Rattle.code_read.specs.Code.{check_last, first_gap, first_outside, first_astray, placed, body, body_at, code_of}
use Rattle.code_read.specs.Fault.{refuse}
use Rattle.code_read.specs.Marks.{is_handler}
use Rattle.code_read.specs.Positions.{nowhere}
use Rattle.code_read.specs.Regions.{regions_of}
use Rattle.code_read.specs.Sweep.{sweep_of}
use Rattle.code_read.specs.Decoded.{opcode_at, payload_of, entries_at, checked_at, fields_at}
use Rattle.code_read.specs.Code.{size_at}
use Rattle.code_read.specs.Order.{ends}
use Rattle.insn_set.specs.Flow.{goes_on}
use Rattle.lemmas.proofs.Bools.{not_false, not_true, and_parts}
use Rattle.lemmas.proofs.Lists.{got_short, get_there, got_map, map_long}
use Rattle.std.proofs.lemmas.Option.{get_or_from_slice_get, slice_get-get_or}
use Rattle.std.proofs.lemmas.Bool.{eq-eqb}
use Rattle.dex_defs.specs.Instructions.{opcode}
use Rattle.dex_defs.specs.Sweep.{starts_of, Piece, Places, instructions, places_of}
use Rattle.dex_defs.specs.CodeItems.{Frame, tries_at}
use Rattle.dex_defs.specs.CodeFaults.{HasUnits, BadSweep, BadInsn, BadTry, IsHandlerAt, BadCode}
use Rattle.dex_defs.specs.CodeFaults as bad
use Rattle.file_laws.specs.Founds.{Founds}
use Rattle.file_laws.proofs.Founding.{weaker, done, next}
use Rattle.file_laws.proofs.Sweeping.{Swept, Instructed, founds_swept, are_instructed, fewer}
use Rattle.refused_law.proofs.Failing.{Fails, sound, fails_with, unless, fails_next, fails_more}
use Rattle.refused_code.proofs.Sweeping.{fails_pieces}
use Rattle.refused_code.proofs.Flowing.{none_begins, are_apart, Sized, are_sized, continuing, gap_there}
use Rattle.refused_code.proofs.Targeting.{bad_target}
use Rattle.refused_code.proofs.Trying.{RisesFrom, they_rise, fails_regions}
use Rattle.refused_code.proofs.Moving.{astray}
use Rattle.refused_code.proofs.Handling.{is_handled, none_handled}
use Rattle.file_laws.proofs.Decoding.{founds_right}
use Rattle.code_read.specs.Checks.{targets_inside}
use Rattle.code_read.specs.Payloads.{has_payload, is_right}
use Rattle.std.proofs.lemmas.List.Quantifiers.{position-Some}
use Rattle.insn_set.specs.declared.form.Insn.TheVariants.{Nop}
use Rattle.std.specs.List.{AllByRecursion}
use Rattle.refused_code.proofs.Reading.{AreRead, founds_insns, read_kind, fails_entries_at, fails_checked, fails_payloads, fails_insns, one_of}

-- The fault stands in the code item, unless it is that of a limit.
abbrev pub IsJustCode : List ℕ → Sizes → ℕ → CodeFault → Type 0
IsJustCode bytes sizes at code.NoMemory = ⊥
IsJustCode bytes sizes at (code.Opcode unit) = BadCode bytes sizes at (code.Opcode unit)
IsJustCode bytes sizes at (code.Cut unit) = BadCode bytes sizes at (code.Cut unit)
IsJustCode bytes sizes at (code.Target unit) = BadCode bytes sizes at (code.Target unit)
IsJustCode bytes sizes at (code.Payload unit) = BadCode bytes sizes at (code.Payload unit)
IsJustCode bytes sizes at (code.Operand unit) = BadCode bytes sizes at (code.Operand unit)
IsJustCode bytes sizes at (code.Region place) = BadCode bytes sizes at (code.Region place)
IsJustCode bytes sizes at (code.Handler place) = BadCode bytes sizes at (code.Handler place)
IsJustCode bytes sizes at (code.FallsOff unit) = BadCode bytes sizes at (code.FallsOff unit)
IsJustCode bytes sizes at (code.Misplaced unit) = BadCode bytes sizes at (code.Misplaced unit)
IsJustCode bytes sizes at (code.Limit limit) = Unit {0}

none_some : {X : Type 0} {x : X} → None ≡ Some x → ⊥
none_some e = absurd cc

fails_refuse : {Has : CodeFault → Type 0} (up : ℕ → CodeFault) (o : Option ℕ) → ((k : ℕ) → o ≡ Some k → Has (up k)) → Fails Has (refuse up o)
fails_refuse up None h = sound tt
fails_refuse up (Some k) h = fails_with (up k) (h k refl)

record IsSweep (units : List ℕ) (places : Places) : Type 0 where
  pieces : List Piece
  swept : Swept units 0 pieces (length units)
  is : places ≡ places_of units pieces

founds_sweep : (units : List ℕ) → Founds (IsSweep units) (sweep_of units)
unfolding sweep_of
founds_sweep units = weaker (sweep_of units) (next (founds_swept units) (λ ps _. done (places_of units ps))) (λ y p. record { pieces = p.0; swept = p.1; is = p.2 })

fails_sweep : (units : List ℕ) → Fails (BadSweep units) (sweep_of units)
unfolding sweep_of
fails_sweep units = fails_next (fails_pieces units) (λ ps _. sound (places_of units ps))

module _ (bytes : List ℕ) (at : ℕ) (f : Frame) (units : List ℕ) (has : HasUnits bytes at f units) (few : length units ≤ nowhere) (room : tries_at at f + 8 * f.tries ≤ length bytes) (sizes : Sizes) (many : sizes.tries ≡ f.tries) where
  abbrev Just : CodeFault → Type 0
  Just = IsJustCode bytes sizes at

  of_sweep : (e : CodeFault) → BadSweep units e → Just e
  of_sweep e (bad.Opcode unit comes kind none is) = subst Just (sym is) (bad.InSweep f units has (bad.Opcode unit comes kind none refl))
  of_sweep e (bad.Cut unit size comes is cut same) = subst Just (sym same) (bad.InSweep f units has (bad.Cut unit size comes is cut refl))
  of_sweep e (bad.CutSize unit comes kind none is) = subst Just (sym is) (bad.InSweep f units has (bad.CutSize unit comes kind none refl))

  module _ (ps : List Piece) (swept : Swept units 0 ps (length units)) where
    abbrev places : Places
    places = places_of units ps

    instructed_at : (k : ℕ) (p : Piece) → slice_get (instructions ps) k ≡ Some p → Instructed units p
    instructed_at k p there = one_of (Instructed units) (instructions ps) k p (are_instructed units ps swept.lie) there

    of_insn : (e : CodeFault) → BadInsn sizes units ps e → BadCode bytes sizes at e
    of_insn e h = bad.AtInsn f units ps has swept.to h

    fails_entry : (k : ℕ) (p : Piece) → slice_get (instructions ps) k ≡ Some p → Fails Just (entries_at places p.start)
    fails_entry k p there = let i = instructed_at k p there in fails_more (λ e h. subst Just (sym h.2)
        (of_insn (code.Payload p.start) (bad.Payload k p (fields_at units p.start) (record { is = there; fields = i.fields_are }) h.0 h.1 refl))) (fails_entries_at places p i)

    fails_operand : (k : ℕ) (p : Piece) → slice_get (instructions ps) k ≡ Some p → Fails Just (checked_at places sizes p.start)
    fails_operand k p there = let i = instructed_at k p there in fails_more (λ e h. subst Just (sym h.1)
        (of_insn (code.Operand p.start) (bad.Operand k p (fields_at units p.start) (record { is = there; fields = i.fields_are }) h.0 refl))) (fails_checked places p i sizes)

    of_try : (e : CodeFault) → BadTry bytes at sizes.types f places e → Just e
    of_try e (bad.Lies tries place t listed there covers wrong is) = subst Just (sym is) (bad.InTries f units ps has swept.to (bad.Lies tries place t listed there covers wrong refl))
    of_try e (bad.Missing tries place t listed there covers none is) = subst Just (sym is) (bad.InTries f units ps has swept.to (bad.Missing tries place t listed there covers none refl))
    of_try e (bad.Catch tries place t c listed there covers are wrong is) = subst Just (sym is) (bad.InTries f units ps has swept.to (bad.Catch tries place t c listed there covers are wrong refl))

    -- ---- what continues into none

    abbrev insns_are : List Piece
    insns_are = instructions ps

    start_at : (k : ℕ) (p : Piece) → slice_get insns_are k ≡ Some p → slice_index places.starts k ≡ p.start
    start_at k p there = get_or_from_slice_get places.starts k p.start 0 (got_map (λ (q : Piece). q.start) insns_are k p there)

    module _ (insns : List Insn) (read : AreRead places sizes insns_are insns) where
      falls : (k : ℕ) (insn : Insn) → slice_get insns k ≡ Some insn → goes_on insn ≡ true → ((p t : Piece) → slice_get insns_are k ≡ Some p → slice_get insns_are (suc k) ≡ Some t → t.start ≡ p.start + length p.text → ⊥)
          → Just (code.FallsOff (slice_index places.starts k))
      falls k insn there on next =
          let x = read.each k insn there in
          let p : Piece = x.0 in
          let i = instructed_at k p x.1 in
          let more = continuing places p.start (fields_at units p.start) insn (opcode p) (read_kind places sizes p i insn x.2) on in
          let none = none_begins insns_are 0 k p (are_apart units 0 ps (length units) swept.to) x.1 (λ t got. next p t x.1 got) in
          subst (λ (n : ℕ). BadCode bytes sizes at (code.FallsOff n)) (sym (start_at k p x.1)) (of_insn (code.FallsOff p.start) (bad.FallsOff k p (fields_at units p.start) (record { is = x.1; fields = i.fields_are }) more none refl))

      -- each instruction that needs a payload has a right one
      abbrev Right : Piece → Type 0
      Right p = has_payload (opcode_at units p.start) ≡ true → is_right (opcode_at units p.start) (payload_of places p.start (fields_at units p.start)) ≡ true

      right_at : AllByRecursion Right insns_are → (k : ℕ) (p : Piece) → slice_get insns_are k ≡ Some p → has_payload (opcode p) ≡ true → is_right (opcode p) (payload_of places p.start (fields_at units p.start)) ≡ true
      right_at right k p there = subst (λ (op : ℕ). has_payload op ≡ true → is_right op (payload_of places p.start (fields_at units p.start)) ≡ true) (instructed_at k p there).opcode_is (one_of Right insns_are k p right there)

      outside_at : AllByRecursion Right insns_are → (k : ℕ) (insn : Insn) → slice_get insns k ≡ Some insn → targets_inside (length insns) insn ≡ false → Just (code.Target (slice_index places.starts k))
      outside_at right k insn there untrue =
          let x = read.each k insn there in
          let p : Piece = x.0 in
          let i = instructed_at k p x.1 in
          let kind = read_kind places sizes p i insn x.2 in
          let many : length insns ≡ length places.starts = read.many ∙ sym (map_long (λ (q : Piece). q.start) insns_are) in
          let wrong = bad_target places p (fields_at units p.start) insn kind (right_at right k p x.1) (subst (λ (n : ℕ). targets_inside n insn ≡ false) many untrue) in
          subst (λ (n : ℕ). BadCode bytes sizes at (code.Target n)) (sym (start_at k p x.1)) (of_insn (code.Target p.start) (bad.Target k p (fields_at units p.start) (record { is = x.1; fields = i.fields_are }) wrong refl))

      outside : AllByRecursion Right insns_are → (k : ℕ) → first_outside insns ≡ Some k → Just (code.Target (slice_index places.starts k))
      outside right k h =
          let got = position-Some (λ (i : Insn). not (targets_inside (length insns) i)) insns k Nop h in
          outside_at right k _ (slice_get-get_or insns k Nop got.0) (not_true _ got.1)

      gap : (k : ℕ) → first_gap units places.starts insns ≡ Some k → Just (code.FallsOff (slice_index places.starts k))
      gap k h =
          let g = gap_there units places.starts insns k h in
          let meets : Bool = eqb (slice_index places.starts k + size_at units (slice_index places.starts k)) (slice_index places.starts (k + 1)) in
          let behind_it = and_parts (ltb k (length places.starts - 1)) (goes_on g.0 && not meets) g.2 in
          let both = and_parts (goes_on g.0) (not meets) behind_it.1 in
          falls k g.0 g.1 both.0 (λ p t here behind same. true≢false (sym (eq-eqb (slice_index places.starts k + size_at units (slice_index places.starts k)) (slice_index places.starts (k + 1))
          (let start = start_at k p here in
          let next : slice_index places.starts (k + 1) ≡ t.start = start_at (k + 1) t (let one : suc k ≡ k + 1 = omega arith in subst (λ (n : ℕ). slice_get insns_are n ≡ Some t) one behind) in
          let size : size_at units (slice_index places.starts k) ≡ length p.text = ap (size_at units) start ∙ one_of (Sized units) insns_are k p (are_sized units ps swept.lie) here in
          omega (arith, start, next, size, same))) ∙ not_true meets both.1))

      no_pieces : (qs : List Piece) → length insns ≡ length qs → length insns ≡ 0 → qs ≡ []
      no_pieces [] h e = refl
      no_pieces (q ∷ qs) h e = absurd (let some : length (q ∷ qs) ≡ suc (length qs) = refl in omega (arith, h, e, some))

      none_read : length insns ≡ 0 → Just (code.FallsOff (slice_index places.starts (length insns - 1)))
      none_read e =
          let empty : insns_are ≡ [] = no_pieces insns_are read.many e in
          subst (λ (n : ℕ). BadCode bytes sizes at (code.FallsOff n)) (sym (ap (λ (qs : List Piece). slice_index (starts_of qs) (length insns - 1)) empty)) (of_insn (code.FallsOff 0) (bad.Empty empty refl))

      last : (o : Option Insn) → slice_get insns (length insns - 1) ≡ o → ends o ≡ false → Just (code.FallsOff (slice_index places.starts (length insns - 1)))
      last (Some insn) there ends_not = falls (length insns - 1) insn there (not_false (goes_on insn) ends_not) (λ p t here behind same. (let short = got_short insns_are (suc (length insns - 1)) t behind in
          let inside = got_short insns (length insns - 1) insn there in omega (arith, short, inside, read.many)))
      last None there ends_not = none_read (by_long (length insns) refl)
        where
          by_long : (n : ℕ) → length insns ≡ n → length insns ≡ 0
          by_long zero e = e
          by_long (suc n) e = absurd (let inside : length insns - 1 < length insns = omega (arith, e) in let got = get_there insns (length insns - 1) inside in let bad_one : None ≡ Some got.0 = sym there ∙ got.1 in none_some bad_one)

      fails_last : Fails Just (check_last places.starts insns)
      fails_last = unless {b = ends (slice_get insns (length insns - 1))} (code.FallsOff (slice_index places.starts (length insns - 1))) (last (slice_get insns (length insns - 1)) refl) (λ _. sound tt)

      -- ---- regions and moves

      rises : RisesFrom 0 places.starts
      rises = they_rise 0 insns_are (are_apart units 0 ps (length units) swept.to)

      abbrev all_regions : Result (List Region) CodeFault
      all_regions = regions_of (drop (tries_at at f) bytes) sizes places

      fails_tries : Fails Just all_regions
      fails_tries = fails_regions bytes at sizes.types f places rises room Just of_try tt sizes many refl

      long : length places.starts ≡ length insns_are
      long = map_long (λ (q : Piece). q.start) insns_are

      short : length places.starts ≤ nowhere
      short = omega (arith, long, fewer ps, swept.few, few)

      begins_at : (k : ℕ) (p : Piece) → slice_get insns_are k ≡ Some p → slice_get places.starts k ≡ Some p.start
      begins_at k p there = got_map (λ (q : Piece). q.start) insns_are k p there

      abbrev AreHere : List Region → Type 0
      AreHere regions = (k : ℕ) (p : Piece) → slice_get insns_are k ≡ Some p → (is_handler regions k ≡ true → IsHandlerAt bytes at f places p.start) × (is_handler regions k ≡ false → IsHandlerAt bytes at f places p.start → ⊥)

      misplaced : AllByRecursion Right insns_are → (regions : List Region) (known : Bool) → (known ≡ true → AreHere regions) → (k : ℕ) → first_astray insns regions known ≡ Some k → Just (code.Misplaced (slice_index places.starts k))
      misplaced right regions known handled k g =
          let a = astray bytes at f units ps short sizes insns read (read.many ∙ sym long) instructed_at (right_at right) regions known handled k g in
          subst (λ (n : ℕ). BadCode bytes sizes at (code.Misplaced n)) (sym (start_at k a.0 a.1)) (bad.AtMove f units ps k a.0 has swept.to a.1 a.2 refl)

      fails_placed : AllByRecursion Right insns_are → (result : Result (List Region) CodeFault) → all_regions ≡ result → Fails Just result → Fails Just (placed places.starts insns result)
      fails_placed right (Ok regions) e h = fails_next (fails_refuse (λ k. code.Misplaced (slice_index places.starts k)) (first_astray insns regions true)
          (misplaced right regions true (λ _ k p there. (is_handled bytes at f places rises sizes many regions e k p.start (begins_at k p there), none_handled bytes at f places rises sizes many regions e k p.start (begins_at k p there)))))
          (λ _ _. sound regions)
      fails_placed right (Err fault) e h = fails_next (fails_refuse (λ k. code.Misplaced (slice_index places.starts k)) (first_astray insns [] false) (misplaced right [] false (λ is. absurd (true≢false (sym is))))) (λ _ _. fails_with fault (h.fault fault refl))

    abbrev tries : List ℕ
    tries = drop (tries_at at f) bytes

    fails_body : Fails Just (body_at tries sizes places)
    unfolding body_at
    fails_body =
        fails_next (fails_payloads places tt 67108864 (instructions ps) fails_entry) (λ checked g. let right = (founds_right places 67108864 (instructions ps)).found checked g in
        fails_next (fails_insns places sizes (instructions ps) fails_operand) (λ insns h. let read = (founds_insns places sizes (instructions ps)).found insns h in
        fails_next (fails_refuse (λ k. code.Target (slice_index places.starts k)) (first_outside insns) (outside insns read right)) (λ inside _.
        fails_next (fails_next (fails_refuse (λ k. code.FallsOff (slice_index places.starts k)) (first_gap units places.starts insns) (gap insns read)) (λ _ _. fails_last insns read)) (λ flows _.
        fails_next (fails_placed insns read right (regions_of tries sizes places) refl (fails_tries insns read)) (λ regions _. sound (body sizes insns regions))))))

  abbrev pub its_tries : List ℕ
  its_tries = drop (tries_at at f) bytes

  fails_body_at : (q : Places) → IsSweep units q → Fails Just (body_at its_tries sizes q)
  fails_body_at q is = subst (λ (q : Places). Fails Just (body_at its_tries sizes q)) (sym is.is) (fails_body is.pieces is.swept)

  pub fails_code : Fails (IsJustCode bytes sizes at) (code_of units (drop (tries_at at f) bytes) sizes)
  unfolding code_of
  fails_code = fails_next (fails_more of_sweep (fails_sweep units)) (λ places h. fails_next (fails_body_at places ((founds_sweep units).found places h)) (λ b _. sound (b, places.starts)))
