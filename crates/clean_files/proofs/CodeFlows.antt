-- Code that is read has no instruction that continues into none, and no move of a result or of a caught object that is misplaced.
use Rattle.std.proofs.Common.{◌≡◌, ◌≤◌, ◌<◌, ◌^◌, inl, inr, ℕ, zero, suc, ◌+◌, ◌-◌, Bool, true, false, cond, ltb, eqb, List, [], ◌∷◌, length, drop, Option, Some, None, Ok, refl, sym, ap, subst, ◌∙◌, arith, true≢false}
use Rattle.std.specs.Prelude.{◌&&◌, not, ℤ, pos, position, replicate, slice_get, slice_index}
use Rattle.std.specs.List.{list_any, prefix_len, position_or_len, enumerate_from}
use Rattle.std.proofs.lemmas.Bool.{cases_lt, lt-ltb, eqb-true, eq-eqb}
use Rattle.std.proofs.lemmas.Option.{get_or_from_slice_get}
use Rattle.lemmas.proofs.Bools.{and_parts, not_true, or_cases, clash}
use Rattle.lemmas.proofs.Lists.{got_short, get_there, got_map, map_long, all_at, any_at}
use Rattle.lemmas.proofs.Options.{some_same}
use Rattle.line_tables.specs.Text.{AscendsFrom}
use Rattle.insn_set.specs.Flow.{goes_on}
use Rattle.insn_set.specs.declared.form.Insn.{Insn}
use Rattle.program_model.specs.declared.body.Region.{Region}
use Rattle.code_read.specs.declared.fault.CodeFault.{CodeFault}
use Rattle.code_read.specs.declared.fields.Fields.{Fields}
use Rattle.code_read.specs.declared.sizes.Sizes.{Sizes}
use Rattle.code_read.specs.Code.{size_at, is_gap}
use Rattle.code_read.specs.Checks.{operands_inside}
use Rattle.code_read.specs.Regions.{regions_of}
use Rattle.code_read.specs.Marks.{set_targets, set_regions, is_marked, goes_to, is_target, is_handler}
use Rattle.code_read.specs.Order.{ends, some_result, some_goes_on, result_before, continues_into, may_follow, may_handle, stands}
use Rattle.code_read.proofs.First.{none_fails}
use Rattle.code_read.proofs.MarkLaws.{targets_say, handlers_say}
use Rattle.dex_defs.specs.Sweep.{Piece, Places, instructions, places_of}
use Rattle.dex_defs.specs.Instructions.{opcode, HasFields, is_call, GoesTo, IsInsn}
use Rattle.dex_defs.specs.Instructions as of
use Rattle.dex_defs.specs.CodeItems.{Frame, tries_at}
use Rattle.dex_defs.specs.CodeFaults.{HasInsn, IsGoneTo, BadInsn, BadMove, NoPosition, continues, moves_result, moves_caught}
use Rattle.dex_defs.specs.CodeFaults as bad
use Rattle.file_laws.proofs.Sweeping.{Swept}
use Rattle.spelled_law.proofs.OnceCode.{place_once}
use Rattle.spelled_law.proofs.Starts.{starts_ascend}
use Rattle.refused_code.proofs.Flowing.{Sized, are_apart, are_sized, unequal}
use Rattle.refused_code.proofs.Handling.{is_handled, none_handled}
use Rattle.refused_code.proofs.Reading.{one_of}
use Rattle.refused_code.proofs.Trying.{RisesFrom, they_rise}
use Rattle.clean_files.proofs.CodeChecked.{Checked}
use Rattle.clean_files.proofs.CodeInsns.{insn_there, goes, gives_none, is_result, is_caught, branch_goes, switch_goes, no_payload, no_operand, no_target}

-- ---- where nothing is found, each element fails

all_fail : {X : Type 0} (test : X → Bool) (xs : List X) → length xs ≤ prefix_len (λ x. not (test x)) xs → (k : ℕ) (x : X) → slice_get xs k ≡ Some x → test x ≡ false
all_fail test [] h k x e = absurd cc
all_fail {X = X} test (y ∷ ys) h k x e = by_test (test y) refl h k e (all_fail test ys)
  where
    by_test : (b : Bool) → test y ≡ b → suc (length ys) ≤ cond (not b) (1 + prefix_len (λ z. not (test z)) ys) 0 → (k : ℕ) → slice_get (y ∷ ys) k ≡ Some x
        → (length ys ≤ prefix_len (λ z. not (test z)) ys → (k : ℕ) (z : X) → slice_get ys k ≡ Some z → test z ≡ false) → test x ≡ false
    by_test true g le k e rest = absurd (omega (arith, le))
    by_test false g le zero e rest = ap test (sym (some_same y x e)) ∙ g
    by_test false g le (suc j) e rest = rest (omega (arith, le)) j x e

none_passes : {X : Type 0} (test : X → Bool) (xs : List X) → position test xs ≡ None → (k : ℕ) (x : X) → slice_get xs k ≡ Some x → test x ≡ false
none_passes test xs h = all_fail test xs (by_place (position_or_len test xs) (length xs) h)
  where
    by_place : (i n : ℕ) → cond (ltb i n) (Some i) None ≡ None → n ≤ i
    by_place i n h = elim (cases_lt i n) [
      | inl less ↦ absurd (let some : Some i ≡ None = ap (λ (b : Bool). cond b (Some i) None) (sym (lt-ltb i n less)) ∙ h in cc)
      | inr le ↦ le
    ]

numbered : (from : ℕ) (insns : List Insn) (k : ℕ) (insn : Insn) → slice_get insns k ≡ Some insn → slice_get (enumerate_from from insns) k ≡ Some (from + k, insn)
numbered from [] k insn h = absurd cc
numbered from (i ∷ is) zero insn h = let on : from ≡ from + 0 = omega arith in ap (λ (n : ℕ). Some (n, i)) on ∙ ap (λ (x : Insn). Some (from + 0, x)) (some_same i insn h)
numbered from (i ∷ is) (suc k) insn h = let on : from + 1 + k ≡ from + suc k = omega arith in numbered (from + 1) is k insn h ∙ ap (λ (n : ℕ). Some (n, insn)) on

numbered_there : (insns : List Insn) (k : ℕ) (insn : Insn) → slice_get insns k ≡ Some insn → slice_get (enumerate_from 0 insns) k ≡ Some (k, insn)
numbered_there insns k insn h = let on : 0 + k ≡ k = omega arith in numbered 0 insns k insn h ∙ ap (λ (n : ℕ). Some (n, insn)) on

-- ---- the instruction before one

result_of : (insns : List Insn) (k : ℕ) → result_before insns (suc k) ≡ some_result (slice_get insns k)
result_of insns k =
    let one : suc k - 1 ≡ k = omega arith in
    ap (λ (b : Bool). cond b false (some_result (slice_get insns (suc k - 1)))) (unequal (suc k) 0 (λ e. omega (arith, e))) ∙ ap (λ (n : ℕ). some_result (slice_get insns n)) one

continues_of : (insns : List Insn) (k : ℕ) → continues_into insns (suc k) ≡ some_goes_on (slice_get insns k)
continues_of insns k =
    let one : suc k - 1 ≡ k = omega arith in
    ap (λ (b : Bool). cond b false (some_goes_on (slice_get insns (suc k - 1)))) (unequal (suc k) 0 (λ e. omega (arith, e))) ∙ ap (λ (n : ℕ). some_goes_on (slice_get insns n)) one

none_ends : (insns : List Insn) → length insns ≡ 0 → ends (slice_get insns (length insns - 1)) ≡ true → ⊥
none_ends [] e h = true≢false (sym h)
none_ends (i ∷ is) e h = omega (arith, e)

fields_of : (places : Places) (p : Piece) (insn : Insn) → IsInsn places p insn → (f : Fields) × HasFields p f
fields_of places p insn (of.Plain f has none is) = (f, has)
fields_of places p insn (of.Branch f has op is) = (f, has)
fields_of places p insn (of.Call f has op few is) = (f, has)
fields_of places p insn (of.Fill f has op is) = (f, has)
fields_of places p insn (of.Packed f has op is) = (f, has)
fields_of places p insn (of.Sparse f has op is) = (f, has)

pos_same : (m n : ℕ) → pos m ≡ pos n → m ≡ n
pos_same m n e = cc

module _ (tries : List ℕ) (sizes : Sizes) (units : List ℕ) (ps : List Piece) (insns : List Insn) (regions : List Region) (c : Checked tries sizes units ps insns regions) (swept : Swept units 0 ps (length units)) (few : length units < 2 ^ 31) where
  abbrev places : Places
  places = places_of units ps

  abbrev qs : List Piece
  qs = instructions ps

  start_at : (k : ℕ) (p : Piece) → slice_get qs k ≡ Some p → slice_index places.starts k ≡ p.start
  start_at k p there = get_or_from_slice_get places.starts k p.start 0 (got_map (λ (q : Piece). q.start) qs k p there)

  -- the instruction of a piece
  abbrev Its : ℕ → Piece → Type 0
  Its k p = (insn : Insn) × (slice_get insns k ≡ Some insn) × IsInsn places p insn

  its : (k : ℕ) (p : Piece) → slice_get qs k ≡ Some p → Its k p
  its k p there = insn_there places qs insns c.are k p there

  -- ---- what follows

  no_gap : (k : ℕ) (insn : Insn) → slice_get insns k ≡ Some insn → is_gap units places.starts (k, insn) ≡ false
  no_gap k insn there = none_passes (is_gap units places.starts) (enumerate_from 0 insns) c.flows k (k, insn) (numbered_there insns k insn there)

  by_gap : (a b e : Bool) → a ≡ true → b ≡ true → (a && (b && not e)) ≡ false → e ≡ true
  by_gap true true true x y h = refl
  by_gap true true false x y h = absurd cc
  by_gap false b e x y h = absurd cc
  by_gap true false e x y h = absurd cc

  last_ends : (k : ℕ) (insn : Insn) → slice_get insns k ≡ Some insn → length insns ≤ suc k → goes_on insn ≡ false
  last_ends k insn there le =
      let short = got_short insns k insn there in
      let last : length insns - 1 ≡ k = omega (arith, short, le) in
      not_true (goes_on insn) (subst (λ (o : Option Insn). ends o ≡ true) there (subst (λ (n : ℕ). ends (slice_get insns n) ≡ true) last c.ends))

  falls_off : (k : ℕ) (p : Piece) (f : Fields) → HasInsn ps k p f → continues (opcode p) ≡ true → NoPosition places (p.start + length p.text) → ⊥
  falls_off k p f has more none =
      let i = its k p has.is in
      let on : goes_on i.0 ≡ true = goes places p f has.fields i.0 i.2 more in
      elim (cases_lt (suc k) (length insns)) [
        | inl less ↦ next i.0 i.1 on less
        | inr le ↦ true≢false (sym on ∙ last_ends k i.0 i.1 le)
      ]
    where
      next : (insn : Insn) → slice_get insns k ≡ Some insn → goes_on insn ≡ true → suc k < length insns → ⊥
      next insn there on less =
          let many = c.many in
          let long : length places.starts ≡ length qs = map_long (λ (q : Piece). q.start) qs in
          let t = get_there qs (suc k) (omega (arith, less, many)) in
          let meets = eqb-true (slice_index places.starts k + size_at units (slice_index places.starts k)) (slice_index places.starts (k + 1))
          (by_gap (ltb k (length places.starts - 1)) (goes_on insn) (eqb (slice_index places.starts k + size_at units (slice_index places.starts k)) (slice_index places.starts (k + 1)))
          (lt-ltb k (length places.starts - 1) (omega (arith, less, many, long))) on (no_gap k insn there)) in
          let start = start_at k p has.is in
          let one : suc k ≡ k + 1 = omega arith in
          let behind : slice_index places.starts (k + 1) ≡ t.0.start = start_at (k + 1) t.0 (subst (λ (n : ℕ). slice_get qs n ≡ Some t.0) one t.1) in
          let size : size_at units (slice_index places.starts k) ≡ length p.text = ap (size_at units) start ∙ one_of (Sized units) qs k p (are_sized units ps swept.lie) has.is in
          let same : t.0.start ≡ p.start + length p.text = omega (arith, meets, start, behind, size) in
          clash (list_any (λ u. eqb u (p.start + length p.text)) places.starts)
          (any_at (λ u. eqb u (p.start + length p.text)) places.starts (suc k) t.0.start (got_map (λ (q : Piece). q.start) qs (suc k) t.0 t.1) (eq-eqb t.0.start (p.start + length p.text) same)) none

  no_insn_read : qs ≡ [] → ⊥
  no_insn_read e = none_ends insns (c.many ∙ ap (λ (xs : List Piece). length xs) e) c.ends

  -- ---- all faults of instructions, with sizes by which operands in range are so too

  pub no_insn : (more : Sizes) → ((insn : Insn) → operands_inside sizes insn ≡ true → operands_inside more insn ≡ true) → (fault : CodeFault) → BadInsn more units ps fault → ⊥
  no_insn more wide fault (bad.Payload k p f has table wrong is) = let i = its k p has.is in no_payload places p f has.fields i.0 table i.2 wrong
  no_insn more wide fault (bad.Operand k p f has wrong is) = let i = its k p has.is in no_operand places p f has.fields i.0 more (wide i.0 (c.inside k i.0 i.1)) i.2 wrong
  no_insn more wide fault (bad.Target k p f has wrong is) = let i = its k p has.is in no_target places p f has.fields i.0 i.2 wrong
  no_insn more wide fault (bad.FallsOff k p f has on none is) = falls_off k p f has on none
  no_insn more wide fault (bad.Empty e is) = no_insn_read e

  -- ---- where branches and switches go

  up : AscendsFrom 0 places.starts
  up = starts_ascend units 0 0 ps (length units) few (omega arith) swept.to

  target_once : (from : ℕ) (offset : ℤ) (s t : ℕ) → GoesTo places from offset s → GoesTo places from offset t → s ≡ t
  target_once from offset s t a b =
      let unit : b.unit ≡ a.unit = pos_same b.unit a.unit (b.is ∙ sym a.is) in
      place_once 0 places.starts s t a.unit up a.begins (b.begins ∙ ap (λ (u : ℕ). Some u) unit)

  gone_by : (k j target : ℕ) (insn : Insn) → slice_get insns j ≡ Some insn → goes_to target insn ≡ true → target ≡ k → is_target insns k ≡ true
  gone_by k j target insn there gone same = any_at (goes_to k) insns j insn there (subst (λ (t : ℕ). goes_to t insn ≡ true) same gone)

  is_gone : (k : ℕ) → IsGoneTo units ps k → is_target insns k ≡ true
  is_gone k (bad.ByBranch j q g has branch to) =
      let i = its j q has.is in
      let b = branch_goes places q g has.fields i.0 branch i.2 in
      gone_by k j b.0 i.0 i.1 b.2 (target_once q.start _ b.0 k b.1 to)
  is_gone k (bad.BySwitch j unit n q g has switch payload less to) =
      let i = its j q has.is in
      let b = switch_goes places q g has.fields i.0 switch i.2 unit n payload less in
      gone_by k j b.0 i.0 i.1 b.2 (target_once q.start _ b.0 k b.1 to)

  -- ---- moves

  abbrev targets : List Bool
  targets = set_targets (replicate (length insns) false) insns

  abbrev handlers : List Bool
  handlers = set_regions (replicate (length insns) false) regions

  stands_there : (k : ℕ) (insn : Insn) → slice_get insns k ≡ Some insn → (may_follow insns k (is_target insns k) insn ≡ true) × (may_handle (is_handler regions k) insn ≡ true)
  stands_there k insn there =
      let all = none_fails (λ (x : ℕ × Insn). stands insns targets handlers true x) (enumerate_from 0 insns) c.right in
      let here : stands insns targets handlers true (k, insn) ≡ true = all_at (λ (x : ℕ × Insn). stands insns targets handlers true x) (enumerate_from 0 insns) k (k, insn) all (numbered_there insns k insn there) in
      let both = and_parts (may_follow insns k (is_marked targets k) insn) (may_handle (is_marked handlers k) insn) here in
      let less : k < length insns = got_short insns k insn there in (
        subst (λ (b : Bool). may_follow insns k b insn ≡ true) (targets_say (length insns) insns k less) both.0,
        subst (λ (b : Bool). may_handle b insn ≡ true) (handlers_say (length insns) regions k less) both.1,
      )

  record ResultStands (k : ℕ) : Type 0 where
    free : is_target insns k ≡ false
    behind : result_before insns k ≡ true
    unhandled : is_handler regions k ≡ false

  result_stands : (k : ℕ) (p : Piece) → slice_get qs k ≡ Some p → moves_result (opcode p) ≡ true → ResultStands k
  result_stands k p there moves =
      let i = its k p there in
      let f = fields_of places p i.0 i.2 in
      let m = is_result places p f.0 f.1 i.0 moves i.2 in
      let s = stands_there k i.0 i.1 in
      let follows = and_parts (not (is_target insns k)) (result_before insns k) (subst (λ (x : Insn). may_follow insns k (is_target insns k) x ≡ true) m.2 s.0) in
      record { free = not_true (is_target insns k) follows.0; behind = follows.1; unhandled = not_true (is_handler regions k) (subst (λ (x : Insn). may_handle (is_handler regions k) x ≡ true) m.2 s.1) }

  record CaughtStands (k : ℕ) : Type 0 where
    free : is_target insns k ≡ false
    entered : continues_into insns k ≡ false
    handled : is_handler regions k ≡ true

  caught_stands : (k : ℕ) (p : Piece) → slice_get qs k ≡ Some p → moves_caught (opcode p) ≡ true → CaughtStands k
  caught_stands k p there moves =
      let i = its k p there in
      let f = fields_of places p i.0 i.2 in
      let m = is_caught places p f.0 f.1 i.0 moves i.2 in
      let s = stands_there k i.0 i.1 in
      let follows = and_parts (not (is_target insns k)) (not (continues_into insns k)) (subst (λ (x : Insn). may_follow insns k (is_target insns k) x ≡ true) m s.0) in
      record { free = not_true (is_target insns k) follows.0; entered = not_true (continues_into insns k) follows.1; handled = subst (λ (x : Insn). may_handle (is_handler regions k) x ≡ true) m s.1 }

  module _ (bytes : List ℕ) (at : ℕ) (f : Frame) (is_tries : tries ≡ drop (tries_at at f) bytes) (many : sizes.tries ≡ f.tries) where
    rises : RisesFrom 0 places.starts
    rises = they_rise 0 qs (are_apart units 0 ps (length units) swept.to)

    read_so : regions_of (drop (tries_at at f) bytes) sizes places ≡ Ok regions
    read_so = subst (λ (ts : List ℕ). regions_of ts sizes places ≡ Ok regions) is_tries c.regions_are

    begins : (k : ℕ) (p : Piece) → slice_get qs k ≡ Some p → slice_get places.starts k ≡ Some p.start
    begins k p there = got_map (λ (q : Piece). q.start) qs k p there

    pub no_move : (k : ℕ) (p : Piece) → slice_get qs k ≡ Some p → BadMove bytes at f units ps k p → ⊥
    no_move k p there (bad.GoneTo moves gone) = elim (or_cases (moves_result (opcode p)) (moves_caught (opcode p)) moves) [
      | inl e ↦ true≢false (sym (is_gone k gone) ∙ (result_stands k p there e).free)
      | inr e ↦ true≢false (sym (is_gone k gone) ∙ (caught_stands k p there e).free)
    ]
    no_move k p there (bad.First moves e) = true≢false (sym (subst (λ (n : ℕ). result_before insns n ≡ true) e (result_stands k p there moves).behind))
    no_move k p there (bad.BehindNone before q moves e is lacks) =
        let i = its before q is in
        let g = fields_of places q i.0 i.2 in
        true≢false (sym (subst (λ (n : ℕ). result_before insns n ≡ true) e (result_stands k p there moves).behind) ∙ result_of insns before ∙ ap some_result i.1 ∙ gives_none places q g.0 g.1 i.0 i.2 lacks)
    no_move k p there (bad.Handled moves h) = none_handled bytes at f places rises sizes many regions read_so k p.start (begins k p there) (result_stands k p there moves).unhandled h
    no_move k p there (bad.Continued before q moves e is on) =
        let i = its before q is in
        let g = fields_of places q i.0 i.2 in
        true≢false (sym (continues_of insns before ∙ ap some_goes_on i.1 ∙ goes places q g.0 g.1 i.0 i.2 on) ∙ subst (λ (n : ℕ). continues_into insns n ≡ false) e (caught_stands k p there moves).entered)
    no_move k p there (bad.Unhandled moves none) = none (is_handled bytes at f places rises sizes many regions read_so k p.start (begins k p there) (caught_stands k p there moves).handled)
