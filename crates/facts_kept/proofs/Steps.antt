-- In a covered state a form whose number is known by the frame at its position does what the constant does.
use Rattle.std.proofs.Common.{◌≡◌, ℕ, zero, suc, ◌+◌, ◌<◌, ℤ, pos, Bool, true, false, true≢false, List, [], ◌∷◌, Option, Some, None, refl, sym, ap, ◌∙◌, subst, arith, nat_eq}
use Rattle.std.specs.Prelude.{◌==◌, ◌||◌, ◌&&◌, not, if◌then◌else◌}
use Rattle.std.specs.Option.{option_map, unwrap_or}
use Rattle.std.specs.Ordering.{int_eq}
use Rattle.std.specs.FinMap as finite
use Rattle.std.proofs.lemmas.Bool.{eqb-true}
use Rattle.insn_set.specs.Flow.{divides_by_literal}
use Rattle.insn_set.specs.Widths.{is_wide_slot, binary_is_wide, unary_writes_wide}
use Rattle.insn_set.specs.declared.ops.BinaryOp.{BinaryOp}
use Rattle.insn_set.specs.declared.ops.LiteralOp.{LiteralOp}
use Rattle.insn_set.specs.declared.ops.Slot.{Slot}
use Rattle.insn_set.specs.declared.ops.Slot.TheVariants as slot
use Rattle.insn_set.specs.declared.form.Insn.{Insn}
use Rattle.insn_set.specs.declared.form.Insn.TheVariants as insn
use Rattle.program_model.specs.declared.program.Program.{Program}
use Rattle.dalvik_defs.specs.Naming.{form_of, named}
use Rattle.dalvik_defs.specs.Names.{Text}
use Rattle.dalvik_defs.specs.Face.{face_of, bodies_of}
use Rattle.dalvik_defs.specs.Outer.{Outer}
use Rattle.dalvik_defs.specs.State.{World, Classes, kind_of, word_of}
use Rattle.dalvik_defs.specs.Stack.{form_at}
use Rattle.dalvik_defs.specs.declared.state.Value.{Value}
use Rattle.dalvik_defs.specs.declared.state.Value.TheVariants as machine
use Rattle.dalvik_defs.specs.declared.state.Frame.{Frame}
use Rattle.dalvik_defs.specs.Effect.{Effect, Goes, register, write, write_wide, write_slot, next}
use Rattle.dalvik_defs.specs.Act.{act}
use Rattle.dalvik_defs.specs.declared.forms.Form.{Form}
use Rattle.dalvik_defs.specs.declared.forms.Form.TheVariants as form
use Rattle.dalvik_defs.specs.declared.program.NamedProgram.{NamedProgram}
use Rattle.dalvik_defs.specs.declared.tables.Floats.{Floats}
use Rattle.dalvik_defs.specs.declared.tables.Framework.{Framework}
use Rattle.domains.specs.Datum.{Within}
use Rattle.domains.specs.Values.{Parts, value_holds, least_value, any_value}
use Rattle.value_ops.specs.Left.{any_object}
use Rattle.value_ops.specs.Numbers.{binary_value, compared_value, literal_value, unary_value}
use Rattle.dom_frame.specs.Registers.{Registers, value_at, put, put_sized}
use Rattle.dom_frame.specs.Steps.{truth}
use Rattle.dom_frame.proofs.Reading.{value_put, value_none}
use Rattle.pass_defs.specs.Analysis.{Analysis}
use Rattle.pass_defs.specs.Facts.{Facts}
use Rattle.form_laws.specs.Changes.{Sets, changed, destination, operands}
use Rattle.run_facts.specs.Covered.{CoversTop, CoversWorld, TakesFrom}
use Rattle.run_facts.specs.ValueAnalysis.{datum_of, value_analysis}
use Rattle.run_laws.specs.TypedStates.{TypedFrame, TypedWorld}
use Rattle.run_laws.proofs.Settled.{IsSettled}
use Rattle.cover_law.specs.Known.{KnownFrame, KnownWorld}
use Rattle.cover_law.proofs.Ready.{IsReady}
use Rattle.cover_law.proofs.Along.{Suits, Looks}
use Rattle.cover_law.proofs.Suits.{suits}
use Rattle.cover_law.proofs.Stays.{Is, looks, there, arrays}
use Rattle.cover_law.proofs.Standing.{own_form}
use Rattle.cover_law.proofs.Waiting.{formed}
use Rattle.cover_law.specs.Operators.{operators}
use Rattle.const_prop.specs.declared.numbers.Number.{Number}
use Rattle.const_prop.specs.declared.numbers.Number.TheVariants.{Word, Wide}
use Rattle.const_prop.specs.Constants.{result_of}
use Rattle.const_prop.specs.Known.{number_of, never_throws, number_in}
use Rattle.facts_kept.specs.Known.{values_of, IsNumber, Only}
use Rattle.facts_kept.proofs.Only.{only, number_width}
use Rattle.facts_kept.proofs.Acts.{Seen, Does, unary_does, cmp_does, binary_does, literal_does, move_does}
use Rattle.facts_kept.proofs.Branches.{put_there}

-- ---- registers

apart : (to : ℕ) → (to == to + 1) ≡ false
apart to = by (to == to + 1) refl
  where
    by : (b : Bool) → (to == to + 1) ≡ b → (to == to + 1) ≡ false
    by false e = e
    by true e = let k : to ≡ to + 1 = eqb-true to (to + 1) e in absurd (omega (arith, k))

pub sized_there : (b : Bool) (to : ℕ) (v : Parts) (x : Registers) → value_at (put_sized b to v x) to ≡ v
sized_there false to v x = put_there to v x
sized_there true to v x = value_put (to + 1) any_value (put to v x) to ∙ ap (λ c. if c then any_value else value_at (put to v x) to) (apart to) ∙ put_there to v x

option_there : (b : Bool) (to : ℕ) (o : Option Parts) (x : Registers) → value_at (unwrap_or (option_map (λ v. put_sized b to v x) o) finite.empty) to ≡ unwrap_or o least_value
option_there b to None x = value_none to
option_there b to (Some v) x = sized_there b to v x

-- a choice that answers
pub chosen : {A : Type 0} (b : Bool) (o : Option A) (v : A) {C : Type 0} → (if b then o else None) ≡ Some v → (b ≡ true → o ≡ Some v → C) → C
chosen true o v e f = f refl e
chosen false o v e f = absurd (cc)

module _ (program : Program) (o : Outer) (f : Framework) (floats : Floats) (facts : Facts Parts) (base : IsReady (value_analysis (named program) operators) (named program) o f floats facts) (reg : IsSettled (named program)) where
  abbrev p : NamedProgram
  p = named program

  abbrev A : Analysis Parts
  A = value_analysis (named program) operators

  module _ (w : World) (cs : Classes) (g : Frame) (tw : TypedWorld (named program) f w) (kw : KnownWorld (named program) o w) (cw : CoversWorld (value_analysis (named program) operators) (named program) o facts w)
      (td : TypedFrame (named program) f w g) (kg : KnownFrame (named program) o g) (top : CoversTop (value_analysis (named program) operators) (named program) o facts w g)
      (x : Registers) (stands : (r : ℕ) → Within value_holds (top.stands.registers r) (value_at x r)) where
    abbrev pub At : Form → Type 0
    At = Is A p o f floats facts base reg w cs g tw kw cw td kg top

    abbrev pub S : ℕ → Type 0
    S = Seen p (face_of p f).under floats base.sound w g (value_at x)

    abbrev D : Number → ℕ → Effect → Type 0
    D = Does p (face_of p f).under floats base.sound w g (value_at x)

    abbrev pub acts : Form → Effect
    acts y = act (face_of p f).under floats y w g

    pub suited : (y : Form) → At y → Suits g y
    suited y h = suits p o f floats reg w cs g tw td kg.ranged y h (formed A p o f floats facts base reg w cs g tw kw cw td kg top y h)

    abbrev Ls : List ℕ → Type 0
    Ls = Looks A p facts (face_of p f).under floats base.sound w g top.stands.registers top.stands.hold (there A p o f floats facts base reg w cs g tw kw cw td kg top) (arrays A p o f floats facts base reg w cs g tw kw cw td kg top)

    looked : (y : Form) → At y → Ls (operands y)
    looked y h = looks A p o f floats facts base reg w cs g tw kw cw td kg top y h

    seen : (r : ℕ) → value_holds (top.stands.registers r) (datum_of p (kind_of w (register g r)) (register g r)) → S r
    seen r h = stands r (datum_of p (kind_of w (register g r)) (register g r)) h

    pub first_seen : (y : Form) → At y → (r : ℕ) (rs : List ℕ) → operands y ≡ r ∷ rs → S r
    first_seen y h r rs e = seen r (subst Ls e (looked y h)).0

    pub second_seen : (y : Form) → At y → (r s : ℕ) (rs : List ℕ) → operands y ≡ r ∷ s ∷ rs → S s
    second_seen y h r s rs e = seen s (subst Ls e (looked y h)).1.0

    -- ---- forms that stay in the frame

    pub narrow_move : (to from : ℕ) (num : Number) → S from → number_of (value_at (put to (value_at x from) x) to) false ≡ Some num → D num to (Goes w (next (write g to (register g from))))
    narrow_move to from num s e =
        let e1 : number_of (value_at x from) false ≡ Some num = ap (λ v. number_of v false) (sym (put_there to (value_at x from) x)) ∙ e in
        let n : (n : ℕ) × (num ≡ Word n) = number_width (value_at x from) false num e1 in
        subst (λ z. D z to (Goes w (next (write g to (register g from))))) (sym n.1)
        (move_does p (face_of p f).under floats base.sound w g (value_at x) to from n.0 s (subst (Only p (value_at x from)) n.1 (only p (value_at x from) false num e1)))

    -- a result that is taken
    abbrev pub Brought : Parts → Type 0
    Brought given = (k : TakesFrom A p o facts w g) → Within value_holds k.value given

    narrow_result : (to : ℕ) (num : Number) (given : Parts) → Only p given num → value_holds given (datum_of p (kind_of w g.result) g.result) → (n : ℕ) → num ≡ Word n → D num to (Goes w (next (write g to g.result)))
    narrow_result to num given h k n e = subst (λ z. D z to (Goes w (next (write g to g.result)))) (sym e) (ap (λ u. Goes w (next (write g to u))) (subst (Only p given) e h (kind_of w g.result) g.result k))

    wide_result : (to : ℕ) (num : Number) (given : Parts) → Only p given num → value_holds given (datum_of p (kind_of w g.result) g.result) → (n : ℕ) → num ≡ Wide n → D num to (Goes w (next (write_wide g to (word_of g.result))))
    wide_result to num given h k n e = subst (λ z. D z to (Goes w (next (write_wide g to (word_of g.result))))) (sym e)
        (ap (λ m. Goes w (next (write_wide g to m))) (by g.result (subst (Only p given) e h (kind_of w g.result) g.result k)))
      where
        by : (v : Value) → IsNumber (Wide n) v → word_of v ≡ n
        by (machine.Low m) i = i
        by (machine.High m) i = i
        by (machine.Word m) i = absurd i
        by (machine.Object m) i = absurd i
        by (machine.Literal t) i = absurd i
        by (machine.Class t) i = absurd i

    takes : (s : Slot) (to : ℕ) → At (form.MoveResult s to) → TakesFrom A p o facts w g
    takes s to h = top.takes s to (own_form A p o f floats facts base reg w g td (form.MoveResult s to) h.has)

    pub results : (s : Slot) (to : ℕ) (num : Number) (given : Parts) → At (form.MoveResult s to) → Brought given → number_of (value_at (put_sized (is_wide_slot s) to given x) to) (is_wide_slot s) ≡ Some num → D num to (Goes w (next (write_slot s g to g.result)))
    results s to num given h b e = by s (takes s to h) e
      where
        by : (s : Slot) → TakesFrom A p o facts w g → number_of (value_at (put_sized (is_wide_slot s) to given x) to) (is_wide_slot s) ≡ Some num → D num to (Goes w (next (write_slot s g to g.result)))
        by slot.Word k e =
            let e1 : number_of given false ≡ Some num = ap (λ v. number_of v false) (sym (put_there to given x)) ∙ e in
            let n : (n : ℕ) × (num ≡ Word n) = number_width given false num e1 in narrow_result to num given (only p given false num e1) (b k (datum_of p (kind_of w g.result) g.result) k.holds) n.0 n.1
        by slot.Object k e =
            let e1 : number_of given false ≡ Some num = ap (λ v. number_of v false) (sym (put_there to given x)) ∙ e in
            let n : (n : ℕ) × (num ≡ Word n) = number_width given false num e1 in narrow_result to num given (only p given false num e1) (b k (datum_of p (kind_of w g.result) g.result) k.holds) n.0 n.1
        by slot.Wide k e =
            let e1 : number_of given true ≡ Some num = ap (λ v. number_of v true) (sym (sized_there true to given x)) ∙ e in
            let n : (n : ℕ) × (num ≡ Wide n) = number_width given true num e1 in wide_result to num given (only p given true num e1) (b k (datum_of p (kind_of w g.result) g.result) k.holds) n.0 n.1

    abbrev u : Text → Text → Bool
    u = (face_of p f).under

    pub unaries : (op : _) (to from : ℕ) (num : Number) → At (form.Unary op to from) → number_of (value_at (put_sized (unary_writes_wide op) to (unary_value op (value_at x from)) x) to) (unary_writes_wide op) ≡ Some num → D num to (acts (form.Unary op to from))
    unaries op to from num h e = unary_does p u floats base.sound w g (value_at x) op to from num (suited (form.Unary op to from) h) (first_seen (form.Unary op to from) h from [] refl)
        (only p (unary_value op (value_at x from)) (unary_writes_wide op) num (ap (λ v. number_of v (unary_writes_wide op)) (sym (sized_there (unary_writes_wide op) to (unary_value op (value_at x from)) x)) ∙ e))

    pub compares : (op : _) (to a b : ℕ) (num : Number) → At (form.Cmp op to a b) → number_of (value_at (put to (compared_value op (value_at x a) (value_at x b)) x) to) false ≡ Some num → D num to (acts (form.Cmp op to a b))
    compares op to a b num h e = let l = suited (form.Cmp op to a b) h in
        cmp_does p u floats base.sound w g (value_at x) op to a b num l.0 l.1 (first_seen (form.Cmp op to a b) h a (b ∷ []) refl) (second_seen (form.Cmp op to a b) h a b [] refl)
        (only p (compared_value op (value_at x a) (value_at x b)) false num (ap (λ v. number_of v false) (sym (put_there to (compared_value op (value_at x a) (value_at x b)) x)) ∙ e))

    pub binaries : (op : BinaryOp) (to a b : ℕ) (num : Number) → At (form.Binary op to a b)
        → (if never_throws op (value_at x b) then number_of (value_at (unwrap_or (option_map (λ v. put_sized (binary_is_wide op) to v x) (binary_value op (value_at x a) (value_at x b))) finite.empty) to) (binary_is_wide op) else None) ≡ Some num
        → D num to (acts (form.Binary op to a b))
    binaries op to a b num h e = chosen (never_throws op (value_at x b)) (number_of (value_at (unwrap_or (option_map (λ v. put_sized (binary_is_wide op) to v x) (binary_value op (value_at x a) (value_at x b))) finite.empty) to) (binary_is_wide op)) num e
        (λ i k. let l = suited (form.Binary op to a b) h in
        binary_does p u floats base.sound w g (value_at x) op to a b num l.0 l.1 (first_seen (form.Binary op to a b) h a (b ∷ []) refl) (second_seen (form.Binary op to a b) h a b [] refl) i
        (only p (unwrap_or (binary_value op (value_at x a) (value_at x b)) least_value) (binary_is_wide op) num
        (ap (λ v. number_of v (binary_is_wide op)) (sym (option_there (binary_is_wide op) to (binary_value op (value_at x a) (value_at x b)) x)) ∙ k)))

    pub literals : (op : LiteralOp) (to a : ℕ) (z : ℤ) (num : Number) → At (form.Literal op to a z)
        → (if not (divides_by_literal op) || not (int_eq z (pos 0)) then number_of (value_at (unwrap_or (option_map (λ v. put to v x) (literal_value op (value_at x a) z)) finite.empty) to) false else None) ≡ Some num
        → D num to (acts (form.Literal op to a z))
    literals op to a z num h e = chosen (not (divides_by_literal op) || not (int_eq z (pos 0))) (number_of (value_at (unwrap_or (option_map (λ v. put to v x) (literal_value op (value_at x a) z)) finite.empty) to) false) num e
        (λ i k. let l = suited (form.Literal op to a z) h in
        literal_does p u floats base.sound w g (value_at x) op to a z num l.0 l.1 (first_seen (form.Literal op to a z) h a [] refl) i
        (only p (unwrap_or (literal_value op (value_at x a) z) least_value) false num (ap (λ v. number_of v false) (sym (option_there false to (literal_value op (value_at x a) z) x)) ∙ k)))

    -- an object, and an answer of 0 or 1, is no number that is known
    pub no_number : (to : ℕ) (v : Parts) (num : Number) {C : Type 0} → number_of v false ≡ None → number_of (value_at (put to v x) to) false ≡ Some num → C
    no_number to v num e i = let j : None ≡ Some num = sym e ∙ (ap (λ y. number_of y false) (sym (put_there to v x)) ∙ i) in absurd (cc)
