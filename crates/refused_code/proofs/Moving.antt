-- A move of a result or of a caught object that is found misplaced stands where it may not.
use Rattle.std.proofs.Common.{◌≡◌, ◌≤◌, ◌<◌, ◌⊎◌, inl, inr, ℕ, zero, suc, ◌+◌, ◌-◌, ◌*◌, Bool, true, false, cond, eqb, ltb, List, [], ◌∷◌, length, drop, Some, Ok, refl, sym, ap, subst, ◌∙◌, arith, true≢false}
use Rattle.std.specs.Prelude.{◌&&◌, ◌||◌, not, ℤ, pos, replicate, slice_get, slice_index}
use Rattle.std.specs.Ordering.{int_eq}
use Rattle.std.specs.List.{list_any, enumerate_from}
use Rattle.std.proofs.lemmas.Bool.{eqb-true}
use Rattle.std.proofs.lemmas.List.{drop-drop}
use Rattle.std.proofs.lemmas.List.Quantifiers.{position-Some}
use Rattle.std.proofs.lemmas.Option.{slice_get-get_or}
use Rattle.lemmas.proofs.Bools.{and_parts, or_left, or_right, or_cases, neither_of, not_true, not_false, untrue}
use Rattle.lemmas.proofs.Lists.{got_short, get_there}
use Rattle.insn_set.specs.Flow.{goes_on, targets_of}
use Rattle.insn_set.specs.declared.form.Insn.{Insn}
use Rattle.insn_set.specs.declared.form.Insn.TheVariants.{Nop, Goto, If, IfZero, MoveResult, MoveException}
use Rattle.insn_set.specs.declared.ops.Test.{Test}
use Rattle.program_model.specs.declared.body.Region.{Region}
use Rattle.code_read.specs.declared.fields.Fields.{Fields}
use Rattle.code_read.specs.declared.sizes.Sizes.{Sizes}
use Rattle.code_read.specs.Branches as c
use Rattle.code_read.specs.Code.{first_astray}
use Rattle.code_read.specs.Decoded.{fields_at, payload_of, call_at, branch_at, insn_of, insn_at, checked_at}
use Rattle.code_read.specs.Forms.{plain, move_form, const_form, wide_form, object_form, array_form, field_form, operation_form}
use Rattle.code_read.specs.Marks.{set_targets, set_regions, is_marked, goes_to, is_target, is_handler}
use Rattle.code_read.specs.Opcodes.{from_to, test_at}
use Rattle.code_read.specs.Order.{has_result, some_result, some_goes_on, result_before, continues_into, may_follow, may_handle, stands}
use Rattle.code_read.specs.Payloads.{has_payload, is_right, signed_in, targets_in, table_form}
use Rattle.code_read.specs.Positions.{nowhere, target_from}
use Rattle.code_read.proofs.MarkLaws.{targets_say, handlers_say}
use Rattle.dex_defs.specs.Sweep.{Piece, Places, instructions, places_of, starts_of}
use Rattle.dex_defs.specs.Instructions as d
use Rattle.dex_defs.specs.CodeItems.{Frame}
use Rattle.dex_defs.specs.CodeFaults.{HasInsn, IsGoneTo, IsHandlerAt, BadMove, moves_result, moves_caught, offsets_at, kind_for}
use Rattle.dex_defs.specs.CodeFaults as bad
use Rattle.file_laws.specs.Founds.{Founds}
use Rattle.file_laws.proofs.Founding.{weaker, done, when}
use Rattle.file_laws.proofs.Sweeping.{Instructed}
use Rattle.file_laws.proofs.Insns.{IsKind, ACall, ABranch, ATable, APlain, leads}
use Rattle.file_laws.proofs.Payloads.{Found, found_payload, is_payload}
use Rattle.refused_law.proofs.Defs.{and_none}
use Rattle.refused_code.proofs.Flowing.{continuing, numbered, unequal}
use Rattle.refused_code.proofs.Reading.{IsTable, is_table, AreRead, read_kind, founds_checked}
use Rattle.refused_code.proofs.Targeting.{plain_none, call_none, size_there, offset_packed, offset_sparse, offset_is}
use Rattle.refused_code.proofs.Caught.{any_got}

-- ---- which opcodes move a result or a caught object

abbrev mark : Insn → ℕ
mark (MoveResult slot to) = 1
mark (MoveException to) = 2
mark insn = 0

abbrev Says : ℕ → ℕ → Type 0
Says op m = (m ≡ 1 → moves_result op ≡ true) × (m ≡ 2 → moves_caught op ≡ true)

no_move : (op : ℕ) → Says op 0
no_move op = (λ e. absurd cc, λ e. absurd cc)

two : (op : ℕ) (b : Bool) (x y : Insn) → (b ≡ true → Says op (mark x)) → Says op (mark y) → Says op (mark (cond b x y))
two op true x y f g = f refl
two op false x y f g = g

move_says : (op : ℕ) (f : Fields) → Says op (mark (move_form op f))
move_says op f = two op (eqb op 0x00) _ _ (λ _. no_move op) (two op (from_to op 0x01 0x09) _ _ (λ _. no_move op) (two op (from_to op 0x0a 0x0c) _ _ (λ is. (λ _. is, λ e. absurd cc))
    (two op (eqb op 0x0d) _ _ (λ is. (λ e. absurd cc, λ _. is)) (two op (eqb op 0x0e) _ _ (λ _. no_move op) (no_move op)))))

const_says : (op : ℕ) (f : Fields) → Says op (mark (const_form op f))
const_says op f = two op (eqb op 0x12) _ _ (λ _. no_move op) (two op (eqb op 0x13) _ _ (λ _. no_move op) (two op (eqb op 0x14) _ _ (λ _. no_move op) (no_move op)))

wide_says : (op : ℕ) (f : Fields) → Says op (mark (wide_form op f))
wide_says op f = two op (eqb op 0x16) _ _ (λ _. no_move op) (two op (eqb op 0x17) _ _ (λ _. no_move op) (two op (eqb op 0x18) _ _ (λ _. no_move op) (no_move op)))

object_says : (op : ℕ) (f : Fields) → Says op (mark (object_form op f))
object_says op f = two op (eqb op 0x1a) _ _ (λ _. no_move op) (two op (eqb op 0x1b) _ _ (λ _. no_move op) (two op (eqb op 0x1c) _ _ (λ _. no_move op) (two op (eqb op 0x1d) _ _ (λ _. no_move op) (two op (eqb op 0x1e) _ _ (λ _. no_move op)
    (two op (eqb op 0x1f) _ _ (λ _. no_move op) (two op (eqb op 0x20) _ _ (λ _. no_move op) (two op (eqb op 0x21) _ _ (λ _. no_move op) (two op (eqb op 0x22) _ _ (λ _. no_move op) (two op (eqb op 0x23) _ _ (λ _. no_move op) (no_move op))))))))))

array_says : (op : ℕ) (f : Fields) → Says op (mark (array_form op f))
array_says op f = two op (from_to op 0x2d 0x31) _ _ (λ _. no_move op) (two op (from_to op 0x44 0x4a) _ _ (λ _. no_move op) (no_move op))

field_says : (op : ℕ) (f : Fields) → Says op (mark (field_form op f))
field_says op f = two op (from_to op 0x52 0x58) _ _ (λ _. no_move op) (two op (from_to op 0x59 0x5f) _ _ (λ _. no_move op) (two op (from_to op 0x60 0x66) _ _ (λ _. no_move op) (no_move op)))

operation_says : (op : ℕ) (f : Fields) → Says op (mark (operation_form op f))
operation_says op f = two op (from_to op 0x7b 0x8f) _ _ (λ _. no_move op) (two op (from_to op 0x90 0xaf) _ _ (λ _. no_move op) (two op (from_to op 0xb0 0xcf) _ _ (λ _. no_move op) (two op (from_to op 0xd0 0xd7) _ _ (λ _. no_move op) (no_move op))))

plain_says : (op : ℕ) (f : Fields) → Says op (mark (plain op f))
unfolding plain
plain_says op f = two op (ltb op 0x12) _ _ (λ _. move_says op f) (two op (ltb op 0x16) _ _ (λ _. const_says op f) (two op (ltb op 0x1a) _ _ (λ _. wide_says op f) (two op (ltb op 0x28) _ _ (λ _. object_says op f)
    (two op (ltb op 0x52) _ _ (λ _. array_says op f) (two op (ltb op 0x6e) _ _ (λ _. field_says op f) (operation_says op f))))))

kind_says : (places : Places) (start op : ℕ) (f : Fields) (insn : Insn) → IsKind places start op f insn → Says op (mark insn)
kind_says places start op f insn (ACall is most e) = subst (λ (i : Insn). Says op (mark i)) (sym e) (two op (from_to op 0x24 0x25) _ _ (λ _. no_move op) (two op (c.is_range op) _ _ (λ _. no_move op) (no_move op)))
kind_says places start op f insn (ABranch is e) = subst (λ (i : Insn). Says op (mark i)) (sym e) (two op (from_to op 0x28 0x2a) _ _ (λ _. no_move op) (two op (from_to op 0x32 0x37) _ _ (λ _. no_move op) (no_move op)))
kind_says places start op f insn (ATable is e) = subst (λ (i : Insn). Says op (mark i)) (sym e) (two op (eqb op 0x26) _ _ (λ _. no_move op) (two op (eqb op 0x2b) _ _ (λ _. no_move op) (no_move op)))
kind_says places start op f insn (APlain a b t e) = subst (λ (i : Insn). Says op (mark i)) (sym e) (plain_says op f)

-- ---- what gives a result is a call

calls_give : (op : ℕ) (f : Fields) → has_result (c.call_form op f) ≡ true
calls_give op f = either_gives (from_to op 0x24 0x25) _ _ refl (either_gives (c.is_range op) _ _ refl refl)
  where
    either_gives : (b : Bool) (x y : Insn) → has_result x ≡ true → has_result y ≡ true → has_result (cond b x y) ≡ true
    either_gives true x y g h = g
    either_gives false x y g h = h

founds_called : (places : Places) (start op : ℕ) (f : Fields) → c.is_call op ≡ true → Founds (λ insn. insn ≡ c.call_form op f) (insn_of places start op f)
founds_called places start op f is = subst (λ (b : Bool). Founds (λ insn. insn ≡ c.call_form op f) (cond b (call_at start op f)
    (cond (c.is_branch op) (Ok (branch_at places.starts start op f)) (cond (has_payload op) (Ok (table_form op f.a (target_from places.starts start) (payload_of places start f))) (Ok (plain op f)))))) (sym is)
    (weaker (call_at start op f) (when _ (done (c.call_form op f))) (λ y q. q.1))

module _ (places : Places) (sizes : Sizes) (p : Piece) (is : Instructed places.units p) where
  called : c.is_call (d.opcode p) ≡ true → (insn : Insn) → insn_at places p.start ≡ Ok insn → has_result insn ≡ true
  unfolding insn_at
  called call insn h =
      let f : Fields = fields_at places.units p.start in
      let read : insn_of places p.start (d.opcode p) f ≡ Ok insn = subst (λ (op : ℕ). insn_of places p.start op f ≡ Ok insn) is.opcode_is h in
      ap has_result ((founds_called places p.start (d.opcode p) f call).found insn read) ∙ calls_give (d.opcode p) f

  no_call : (insn : Insn) → checked_at places sizes p.start ≡ Ok insn → has_result insn ≡ false → c.is_call (d.opcode p) ≡ false
  no_call insn h none = untrue (c.is_call (d.opcode p)) (λ call. true≢false (sym (called call insn ((founds_checked places sizes p).found insn h)) ∙ none))

-- ---- where branches and switches go

record Reaches (target : ℤ → ℕ) (k m : ℕ) (us : List ℕ) : Type 0 where
  i : ℕ
  inside : i < m
  is : target (signed_in (drop (2 * i) us)) ≡ k

reaches : (target : ℤ → ℕ) (k m : ℕ) (us : List ℕ) → list_any (λ t. eqb t k) (targets_in target m us) ≡ true → Reaches target k m us
reaches target k zero us h = absurd cc
reaches target k (suc m) us h = by_first (or_cases (eqb (target (signed_in us)) k) (list_any (λ t. eqb t k) (targets_in target m (drop 2 us))) h) (reaches target k m (drop 2 us))
  where
    further : (i : ℕ) → drop (2 * i) (drop 2 us) ≡ drop (2 * suc i) us
    further i = let on : 2 + 2 * i ≡ 2 * suc i = omega arith in drop-drop (2 * i) 2 us ∙ ap (λ (m : ℕ). drop m us) on

    by_first : (eqb (target (signed_in us)) k ≡ true) ⊎ (list_any (λ t. eqb t k) (targets_in target m (drop 2 us)) ≡ true) → (list_any (λ t. eqb t k) (targets_in target m (drop 2 us)) ≡ true → Reaches target k m (drop 2 us)) → Reaches target k (suc m) us
    by_first (inl e) rest = record { i = 0; inside = omega arith; is = eqb-true (target (signed_in us)) k e }
    by_first (inr e) rest = let r = rest e in record { i = suc r.i; inside = omega (arith, r.inside); is = ap (λ (xs : List ℕ). target (signed_in xs)) (sym (further r.i)) ∙ r.is }

none_gone : {A : Type 0} (k : ℕ) (insn : Insn) → targets_of insn ≡ [] → goes_to k insn ≡ true → A
none_gone k insn e h = absurd (true≢false (sym h ∙ ap (λ (ts : List ℕ). list_any (λ t. eqb t k) ts) e))

one_gone : (t k : ℕ) → list_any (λ t. eqb t k) (t ∷ []) ≡ true → t ≡ k
one_gone t k h = by_test (eqb t k) refl h
  where
    by_test : (b : Bool) → eqb t k ≡ b → (b || false) ≡ true → t ≡ k
    by_test true e h = eqb-true t k e
    by_test false e h = absurd cc

by_forms : (a b : Bool) (t q r k : ℕ) (x y : Test) → list_any (λ t. eqb t k) (targets_of (cond a (Goto t) (cond b (If x q r t) (IfZero y q t)))) ≡ true → t ≡ k
by_forms true b t q r k x y h = one_gone t k h
by_forms false true t q r k x y h = one_gone t k h
by_forms false false t q r k x y h = one_gone t k h

module _ (units : List ℕ) (ps : List Piece) (few : length (starts_of (instructions ps)) ≤ nowhere) where
  abbrev places : Places
  places = places_of units ps

  abbrev n : ℕ
  n = length places.starts

  goes : (from : ℕ) (z : ℤ) (k : ℕ) → k < n → target_from places.starts from z ≡ k → d.GoesTo places from z k
  goes from z k less is =
      let inside : target_from places.starts from z < n = omega (arith, less, is) in
      let l = leads places.starts from z n inside few in
      record { unit = l.unit; is = l.is; begins = subst (λ (t : ℕ). slice_get places.starts t ≡ Some l.unit) is l.begins }

  module _ (j : ℕ) (q : Piece) (f : Fields) (insn_is : HasInsn ps j q f) (k : ℕ) (less : k < n) where
    abbrev payload : List ℕ
    payload = payload_of places q.start f

    abbrev goal : ℤ → ℕ
    goal z = target_from places.starts q.start z

    by_branch : c.is_branch (d.opcode q) ≡ true → (stays : Bool) → cond stays nowhere (goal (c.offset_form (d.opcode q) f)) ≡ k → IsGoneTo units ps k
    by_branch is true e = absurd (omega (arith, e, less, few))
    by_branch is false e = bad.ByBranch j q f insn_is is (goes q.start (c.offset_form (d.opcode q) f) k less e)

    by_switch : (h : Found places q.start f payload) → d.IsPayloadOf places q.start f (kind_for (d.opcode q)) h.unit → from_to (d.opcode q) 0x2b 0x2c ≡ true → (skip : ℕ) → h.unit + skip ≡ offsets_at places q h.unit
        → list_any (λ t. eqb t k) (targets_in goal (slice_index payload 1) (drop skip payload)) ≡ true → IsGoneTo units ps k
    by_switch h is op skip same gone =
        let r = reaches goal k (slice_index payload 1) (drop skip payload) gone in
        bad.BySwitch j h.unit r.i q f insn_is op is (subst (λ (m : ℕ). r.i < m) (size_there places q f h) r.inside)
        (goes q.start (d.signed_at units (offsets_at places q h.unit + 2 * r.i)) k less (ap goal (sym (offset_is places q f h skip same r.i)) ∙ r.is))

    by_table : IsTable (d.opcode q) → is_right (d.opcode q) payload ≡ true → goes_to k (table_form (d.opcode q) f.a goal payload) ≡ true → IsGoneTo units ps k
    by_table (inl op) right h = none_gone k (table_form 0x26 f.a goal payload) refl (subst (λ (o : ℕ). goes_to k (table_form o f.a goal payload) ≡ true) op h)
    by_table (inr (inl op)) right h =
        let kind : slice_index payload 0 ≡ 256 = eqb-true (slice_index payload 0) 256 (subst (λ (o : ℕ). is_right o payload ≡ true) op right) in
        let found = found_payload places q.start f 256 kind (omega arith) in
        by_switch found (subst (λ (o : ℕ). d.IsPayloadOf places q.start f (kind_for o) found.unit) (sym op) (is_payload places q.start 1 f payload found kind)) (ap (λ (o : ℕ). from_to o 0x2b 0x2c) op) 4
        (offset_packed places q f op found.unit)
        (subst (λ (o : ℕ). goes_to k (table_form o f.a goal payload) ≡ true) op h)
    by_table (inr (inr op)) right h =
        let kind : slice_index payload 0 ≡ 512 = eqb-true (slice_index payload 0) 512 (and_parts _ _ (subst (λ (o : ℕ). is_right o payload ≡ true) op right)).0 in
        let found = found_payload places q.start f 512 kind (omega arith) in
        let skip : found.unit + (2 + 2 * slice_index payload 1) ≡ found.unit + 2 + 2 * slice_index places.units (found.unit + 1) = omega (arith, size_there places q f found) in
        by_switch found (subst (λ (o : ℕ). d.IsPayloadOf places q.start f (kind_for o) found.unit) (sym op) (is_payload places q.start 2 f payload found kind)) (ap (λ (o : ℕ). from_to o 0x2b 0x2c) op) (2 + 2 * slice_index payload 1)
        (skip ∙ offset_sparse places q f op found.unit)
        (subst (λ (o : ℕ). goes_to k (table_form o f.a goal payload) ≡ true) op h)

    by_kind : (insn : Insn) → IsKind places q.start (d.opcode q) f insn → (has_payload (d.opcode q) ≡ true → is_right (d.opcode q) payload ≡ true) → goes_to k insn ≡ true → IsGoneTo units ps k
    by_kind insn (ACall is most e) right h = none_gone k insn (ap targets_of e ∙ call_none (d.opcode q) f) h
    by_kind insn (ABranch is e) right h =
        let stays : Bool = int_eq (c.offset_form (d.opcode q) f) (pos 0) && not (eqb (d.opcode q) 0x2a) in
        by_branch is stays (by_forms (from_to (d.opcode q) 0x28 0x2a) (from_to (d.opcode q) 0x32 0x37) (cond stays nowhere (goal (c.offset_form (d.opcode q) f))) f.a f.b k (test_at (d.opcode q - 0x32)) (test_at (d.opcode q - 0x38))
        (subst (λ (i : Insn). goes_to k i ≡ true) e h))
    by_kind insn (ATable is e) right h = by_table (is_table (d.opcode q) is) (right is) (subst (λ (i : Insn). goes_to k i ≡ true) e h)
    by_kind insn (APlain a b t e) right h = none_gone k insn (ap targets_of e ∙ plain_none (d.opcode q) f) h

-- ---- moves that stand where they may not

result_of : (insns : List Insn) (k : ℕ) → result_before insns (suc k) ≡ some_result (slice_get insns k)
result_of insns k =
    let one : suc k - 1 ≡ k = omega arith in
    ap (λ (b : Bool). cond b false (some_result (slice_get insns (suc k - 1)))) (unequal (suc k) 0 (λ e. omega (arith, e))) ∙ ap (λ (n : ℕ). some_result (slice_get insns n)) one

continues_of : (insns : List Insn) (k : ℕ) → continues_into insns (suc k) ≡ some_goes_on (slice_get insns k)
continues_of insns k =
    let one : suc k - 1 ≡ k = omega arith in
    ap (λ (b : Bool). cond b false (some_goes_on (slice_get insns (suc k - 1)))) (unequal (suc k) 0 (λ e. omega (arith, e))) ∙ ap (λ (n : ℕ). some_goes_on (slice_get insns n)) one

module _ (bytes : List ℕ) (at : ℕ) (f : Frame) (units : List ℕ) (ps : List Piece) (few : length (starts_of (instructions ps)) ≤ nowhere) (sizes : Sizes) (insns : List Insn)
    (read : AreRead (places_of units ps) sizes (instructions ps) insns) (many : length insns ≡ length (starts_of (instructions ps)))
    (instructed : (k : ℕ) (p : Piece) → slice_get (instructions ps) k ≡ Some p → Instructed units p)
    (right : (k : ℕ) (p : Piece) → slice_get (instructions ps) k ≡ Some p → has_payload (d.opcode p) ≡ true → is_right (d.opcode p) (payload_of (places_of units ps) p.start (fields_at units p.start)) ≡ true) where
  abbrev spots : Places
  spots = places_of units ps

  -- the instruction at a position
  abbrev IsAt : ℕ → Insn → Type 0
  IsAt k insn = (p : Piece) × (slice_get (instructions ps) k ≡ Some p) × (checked_at spots sizes p.start ≡ Ok insn)

  is_at : (k : ℕ) (insn : Insn) → slice_get insns k ≡ Some insn → IsAt k insn
  is_at k insn there = read.each k insn there

  kind_at : (k : ℕ) (insn : Insn) (x : IsAt k insn) → IsKind spots x.0.start (d.opcode x.0) (fields_at units x.0.start) insn
  kind_at k insn x = read_kind spots sizes x.0 (instructed k x.0 x.1) insn x.2

  is_gone : (k : ℕ) → k < length insns → is_target insns k ≡ true → IsGoneTo units ps k
  is_gone k less h =
      let g = any_got (λ i. goes_to k i) insns h in
      let x = is_at g.0 g.1 g.2 in
      by_kind units ps few g.0 x.0 (fields_at units x.0.start) (record { is = x.1; fields = (instructed g.0 x.0 x.1).fields_are }) k (subst (λ (n : ℕ). k < n) many less) g.1 (kind_at g.0 g.1 x) (right g.0 x.0 x.1) g.3

  before_there : (k : ℕ) → suc k < length insns → (insn : Insn) × (slice_get insns k ≡ Some insn)
  before_there k less = get_there insns k (omega (arith, less))

  abbrev Bad : ℕ → Piece → Type 0
  Bad k p = BadMove bytes at f units ps k p

  -- ---- what may not follow

  follows_none : (k : ℕ) (p : Piece) → moves_result (d.opcode p) ≡ true → k < length insns → result_before insns k ≡ false → Bad k p
  follows_none zero p moves less none = bad.First moves refl
  follows_none (suc k) p moves less none =
      let b = before_there k less in
      let x = is_at k b.0 b.1 in
      let gives : has_result b.0 ≡ false = ap some_result (sym b.1) ∙ sym (result_of insns k) ∙ none in
      bad.BehindNone k x.0 moves refl x.1 (no_call spots sizes x.0 (instructed k x.0 x.1) b.0 x.2 gives)

  is_entered : (k : ℕ) (p : Piece) → moves_caught (d.opcode p) ≡ true → k < length insns → continues_into insns k ≡ true → Bad k p
  is_entered zero p moves less on = absurd cc
  is_entered (suc k) p moves less on =
      let b = before_there k less in
      let x = is_at k b.0 b.1 in
      let goes : goes_on b.0 ≡ true = ap some_goes_on (sym b.1) ∙ sym (continues_of insns k) ∙ on in
      bad.Continued k x.0 moves refl x.1 (continuing spots x.0.start (fields_at units x.0.start) b.0 (d.opcode x.0) (kind_at k b.0 x) goes)

  follows : (k : ℕ) (p : Piece) (insn : Insn) → Says (d.opcode p) (mark insn) → k < length insns → (targeted : Bool) → (targeted ≡ true → IsGoneTo units ps k) → may_follow insns k targeted insn ≡ false → Bad k p
  follows k p (MoveResult slot to) says less targeted gone h = elim (and_none (not targeted) (result_before insns k) h) [
    | inl e ↦ bad.GoneTo (or_left (moves_result (d.opcode p)) (moves_caught (d.opcode p)) (says.0 refl)) (gone (not_false targeted e))
    | inr e ↦ follows_none k p (says.0 refl) less e
  ]
  follows k p (MoveException to) says less targeted gone h = elim (and_none (not targeted) (not (continues_into insns k)) h) [
    | inl e ↦ bad.GoneTo (or_right (moves_result (d.opcode p)) (moves_caught (d.opcode p)) (says.1 refl)) (gone (not_false targeted e))
    | inr e ↦ is_entered k p (says.1 refl) less (not_false (continues_into insns k) e)
  ]
  follows k p insn says less targeted gone h = absurd cc

  -- ---- handlers

  -- what regions say of where handlers begin is so
  abbrev pub AreHandled : List Region → Type 0
  AreHandled regions = (k : ℕ) (p : Piece) → slice_get (instructions ps) k ≡ Some p
      → (is_handler regions k ≡ true → IsHandlerAt bytes at f spots p.start) × (is_handler regions k ≡ false → IsHandlerAt bytes at f spots p.start → ⊥)

  handles : (k : ℕ) (p : Piece) (insn : Insn) → Says (d.opcode p) (mark insn) → (handled : Bool) → (handled ≡ true → IsHandlerAt bytes at f spots p.start) → (handled ≡ false → IsHandlerAt bytes at f spots p.start → ⊥) → may_handle handled insn ≡ false → Bad k p
  handles k p (MoveResult slot to) says handled marked unmarked h = bad.Handled (says.0 refl) (marked (not_false handled h))
  handles k p (MoveException to) says handled marked unmarked h = bad.Unhandled (says.1 refl) (unmarked h)
  handles k p insn says handled marked unmarked h = absurd cc

  -- ---- all of them

  abbrev targets : List Bool
  targets = set_targets (replicate (length insns) false) insns

  abbrev handlers : List Region → List Bool
  handlers regions = set_regions (replicate (length insns) false) regions

  astray_at : (regions : List Region) (known : Bool) → (known ≡ true → AreHandled regions) → (k : ℕ) (insn : Insn) → slice_get insns k ≡ Some insn → stands insns targets (handlers regions) known (k, insn) ≡ false
      → (p : Piece) × (slice_get (instructions ps) k ≡ Some p) × Bad k p
  astray_at regions known handled k insn there h =
      let x = is_at k insn there in
      let less : k < length insns = got_short insns k insn there in
      let says = kind_says spots x.0.start (d.opcode x.0) (fields_at units x.0.start) insn (kind_at k insn x) in (
        x.0,
        x.1,
        elim (and_none (may_follow insns k (is_marked targets k) insn) (not known || may_handle (is_marked (handlers regions) k) insn) h) [
          | inl e ↦ follows k x.0 insn says less (is_marked targets k) (λ is. is_gone k less (sym (targets_say (length insns) insns k less) ∙ is)) e
          | inr e ↦ let both = neither_of (not known) (may_handle (is_marked (handlers regions) k) insn) e in
              let at_it = handled (not_false known both.0) k x.0 x.1 in
              let same = handlers_say (length insns) regions k less in
              handles k x.0 insn says (is_marked (handlers regions) k) (λ is. at_it.0 (sym same ∙ is)) (λ is. at_it.1 (sym same ∙ is)) both.1
        ],
      )

  astray_from : (regions : List Region) (known : Bool) (k : ℕ) (x : ℕ × Insn) → slice_get (enumerate_from 0 insns) k ≡ Some x → not (stands insns targets (handlers regions) known x) ≡ true
      → (insn : Insn) × (slice_get insns k ≡ Some insn) × (stands insns targets (handlers regions) known (k, insn) ≡ false)
  astray_from regions known k x is h =
      let on : 0 + k ≡ k = omega arith in
      let y = numbered 0 insns k x is in
      (x.1, y.1, subst (λ (m : ℕ). stands insns targets (handlers regions) known (m, x.1) ≡ false) (y.0 ∙ on) (not_true (stands insns targets (handlers regions) known x) h))

  pub astray : (regions : List Region) (known : Bool) → (known ≡ true → AreHandled regions) → (k : ℕ) → first_astray insns regions known ≡ Some k → (p : Piece) × (slice_get (instructions ps) k ≡ Some p) × BadMove bytes at f units ps k p
  astray regions known handled k h =
      let got = position-Some (λ p. not (stands insns targets (handlers regions) known p)) (enumerate_from 0 insns) k (0, Nop) h in
      let a = astray_from regions known k _ (slice_get-get_or (enumerate_from 0 insns) k (0, Nop) got.0) got.1 in
      astray_at regions known handled k a.0 a.1 a.2
