-- In a covered state in which the calm classes are done, a form that is folded settles as what is written over it.
use Rattle.std.proofs.Common.{◌≡◌, ℕ, zero, suc, ◌+◌, ◌<◌, ℤ, pos, Bool, true, false, true≢false, List, [], ◌∷◌, length, Option, Some, None, refl, sym, ap, ap₂, ◌∙◌, subst, arith, nat_eq}
use Rattle.std.specs.Prelude.{◌==◌, ◌||◌, ◌&&◌, not, if◌then◌else◌}
use Rattle.std.specs.Option.{option_map, unwrap_or}
use Rattle.std.specs.FinMap as finite
use Rattle.std.proofs.lemmas.Bool.{eqb-true}
use Rattle.insn_set.specs.Widths.{is_wide_slot, is_wide_item}
use Rattle.insn_set.specs.declared.ops.Item.{Item}
use Rattle.insn_set.specs.declared.ops.Item.TheVariants as item
use Rattle.insn_set.specs.declared.ops.Slot.TheVariants as slot
use Rattle.insn_set.specs.declared.form.Insn.{Insn}
use Rattle.insn_set.specs.declared.form.Insn.TheVariants as insn
use Rattle.program_model.specs.declared.program.Program.{Program}
use Rattle.dalvik_defs.specs.Naming.{form_of, field_at, named}
use Rattle.dalvik_defs.specs.Names.{Text}
use Rattle.dalvik_defs.specs.Flags.{is_static}
use Rattle.dalvik_defs.specs.Face.{face_of, bodies_of, is_defined, place_of}
use Rattle.dalvik_defs.specs.Fields.{static_value}
use Rattle.dalvik_defs.specs.Find.{finds_field}
use Rattle.dalvik_defs.specs.Initialised.{is_trivial}
use Rattle.dalvik_defs.specs.Outer.{Outer}
use Rattle.dalvik_defs.specs.Quiet.{EndsWithin, quiet_within}
use Rattle.dalvik_defs.specs.State.{World, Classes, Done, kind_of, word_of}
use Rattle.dalvik_defs.specs.declared.state.Value.{Value}
use Rattle.dalvik_defs.specs.declared.state.Value.TheVariants as machine
use Rattle.dalvik_defs.specs.declared.state.Frame.{Frame}
use Rattle.dalvik_defs.specs.declared.names.FieldKey.{FieldKey}
use Rattle.dalvik_defs.specs.declared.program.NamedField.{NamedField}
use Rattle.dalvik_defs.specs.Effect.{Effect, Goes, Reads, register, write, write_wide, write_item, next}
use Rattle.dalvik_defs.specs.Outcome.{Outcome, Stays, Need, Ready, need_if, need_of, when_ready, reads_value, reads_static, outcome}
use Rattle.dalvik_defs.specs.declared.forms.Form.{Form}
use Rattle.dalvik_defs.specs.declared.forms.Form.TheVariants as form
use Rattle.dalvik_defs.specs.declared.program.NamedProgram.{NamedProgram}
use Rattle.dalvik_defs.specs.declared.tables.Floats.{Floats}
use Rattle.dalvik_defs.specs.declared.tables.Framework.{Framework}
use Rattle.dalvik_defs.proofs.Quiet.{trivial_quiet}
use Rattle.domains.specs.Datum.{Within}
use Rattle.domains.specs.Values.{Parts, value_holds}
use Rattle.value_ops.specs.Left.{any_object}
use Rattle.dom_frame.specs.Registers.{Registers, value_at, put, put_sized}
use Rattle.dom_frame.specs.Steps.{truth}
use Rattle.dom_frame.proofs.Reading.{value_put}
use Rattle.pass_defs.specs.Analysis.{Analysis}
use Rattle.pass_defs.specs.Demands.{Pair}
use Rattle.pass_defs.specs.Facts.{Facts, own_key}
use Rattle.pass_defs.specs.Demands.{meets}
use Rattle.pass_defs.specs.Pure.{is_quiet_field}
use Rattle.pass_defs.specs.Typed.{wrong_item, wrong_field, wrong_first, differ}
use Rattle.form_laws.specs.Changes.{Sets, changed, destination}
use Rattle.run_facts.specs.Covered.{CoversTop, CoversWorld}
use Rattle.run_facts.specs.ValueAnalysis.{datum_of, value_analysis}
use Rattle.run_laws.specs.TypedStates.{TypedFrame, TypedWorld}
use Rattle.run_laws.proofs.Settled.{IsSettled}
use Rattle.run_laws.proofs.Registers.{and_left}
use Rattle.run_laws.proofs.Forms.{low_held, halves_held, or_left, or_right}
use Rattle.cover_law.specs.Known.{KnownFrame, KnownWorld}
use Rattle.cover_law.proofs.Ready.{IsReady}
use Rattle.cover_law.proofs.Fields.{static_seen}
use Rattle.cover_law.specs.Operators.{operators}
use Rattle.const_prop.specs.declared.numbers.Number.{Number}
use Rattle.const_prop.specs.declared.numbers.Number.TheVariants.{Word, Wide}
use Rattle.const_prop.specs.Constants.{result_of}
use Rattle.const_prop.specs.Known.{number_of, number_in, is_always_pure}
use Rattle.facts_kept.specs.Known.{values_of, IsNumber, Only}
use Rattle.facts_kept.proofs.Only.{only, number_width}
use Rattle.facts_kept.proofs.Acts.{Does}
use Rattle.facts_kept.proofs.Branches.{put_there}
use Rattle.facts_kept.proofs.Steps.{At, S, acts, Brought, sized_there, first_seen, chosen, narrow_move, results, unaries, compares, binaries, literals, no_number}

module _ (program : Program) (o : Outer) (f : Framework) (floats : Floats) (facts : Facts Parts) (base : IsReady (value_analysis (named program) operators) (named program) o f floats facts) (reg : IsSettled (named program))
    (ends : (t : Text) → EndsWithin (named program) (length (named program).classes) t) where
  abbrev p : NamedProgram
  p = named program

  abbrev A : Analysis Parts
  A = value_analysis (named program) operators

  abbrev calm : Text → Bool
  calm = quiet_within (face_of (named program) f) (suc (length (named program).classes))

  module _ (w : World) (cs : Classes) (g : Frame) (tw : TypedWorld (named program) f w) (kw : KnownWorld (named program) o w) (cw : CoversWorld (value_analysis (named program) operators) (named program) o facts w)
      (td : TypedFrame (named program) f w g) (kg : KnownFrame (named program) o g) (top : CoversTop (value_analysis (named program) operators) (named program) o facts w g)
      (x : Registers) (stands : (r : ℕ) → Within value_holds (top.stands.registers r) (value_at x r)) where
    abbrev I : Form → Type 0
    I = At program o f floats facts base reg w cs g tw kw cw td kg top x stands

    abbrev D : Number → ℕ → Effect → Type 0
    D = Does p (face_of p f).under floats base.sound w g (value_at x)

    abbrev act : Form → Effect
    act = acts program o f floats facts base reg w cs g tw kw cw td kg top x stands

    abbrev need : Text → Need
    need = need_of (face_of p f) cs

    -- the outcome is that of the constant
    abbrev pub Settled : Number → Form → Type 0
    Settled num y = outcome (face_of p f) need (act y) w g ≡ Stays w (changed (Sets (values_of num)) (destination y) g) None

    abbrev B : Parts → Type 0
    B = Brought program o f floats facts base reg w cs g tw kw cw td kg top x stands

    settles : (num : Number) (y : Form) → D num (destination y) (act y) → Settled num y
    settles num y e = ap (λ z. outcome (face_of p f) need z w g) e

    -- ---- both halves of a wide that is moved

    wide_move : (to from : ℕ) (num : Number) → I (form.Move slot.Wide to from) → number_of (value_at (put (to + 1) (value_at x (from + 1)) (put to (value_at x from) x)) to) true ≡ Some num → D num to (act (form.Move slot.Wide to from))
    wide_move to from num h e =
        let there : value_at (put (to + 1) (value_at x (from + 1)) (put to (value_at x from) x)) to ≡ value_at x from = value_put (to + 1) (value_at x (from + 1)) (put to (value_at x from) x) to
        ∙ ap (λ c. if c then value_at x (from + 1) else value_at (put to (value_at x from) x) to) (next_apart to) ∙ put_there to (value_at x from) x in
        let e1 : number_of (value_at x from) true ≡ Some num = ap (λ v. number_of v true) (sym there) ∙ e in
        let n : (n : ℕ) × (num ≡ Wide n) = number_width (value_at x from) true num e1 in
        let pair = and_left (meets p td.in_method.class td.kinds.registers from Pair) true h.allowed in
        let k = low_held p o f floats reg w cs g tw td from pair in
        let is : IsNumber num (register g from) = only p (value_at x from) true num e1 (kind_of w (register g from)) (register g from) (first_seen program o f floats facts base reg w cs g tw kw cw td kg top x stands (form.Move slot.Wide to from) h from ((from + 1) ∷ []) refl) in
        let low : k.0.0 ≡ n.0 = subst₂is n.0 num (register g from) k.0.0 n.1 k.0.1 is in
        let high : k.1.0 ≡ n.0 = sym (ap word_of k.1.1) ∙ (sym (halves_held p o f floats reg w cs g tw td from pair) ∙ (ap word_of k.0.1 ∙ low)) in
        subst (λ z. D z to (act (form.Move slot.Wide to from))) (sym n.1)
        (ap₂ (λ a b. Goes w (next (write (write g to a) (to + 1) b))) (k.0.1 ∙ ap machine.Low low) (k.1.1 ∙ ap machine.High high))
      where
        next_apart : (to : ℕ) → (to == to + 1) ≡ false
        next_apart to = by (to == to + 1) refl
          where
            by : (b : Bool) → (to == to + 1) ≡ b → (to == to + 1) ≡ false
            by false e = e
            by true e = let k : to ≡ to + 1 = eqb-true to (to + 1) e in absurd (omega (arith, k))

        subst₂is : (n : ℕ) (num : Number) (v : Value) (m : ℕ) → num ≡ Wide n → v ≡ machine.Low m → IsNumber num v → m ≡ n
        subst₂is n num v m e i h = subst (λ z. IsNumber (Wide n) z) i (subst (λ z. IsNumber z v) e h)

    -- ---- a field of a class that is done

    ready_class : ((t : Text) → calm t ≡ true → cs t ≡ Done) → (t : Text) → is_trivial p t ≡ true → need t ≡ Ready
    ready_class d t e = ap (need_if (is_defined (face_of p f) t)) (d t (trivial_quiet p f t (ends t) e)) ∙ by (is_defined (face_of p f) t)
      where
        by : (b : Bool) → need_if b Done ≡ Ready
        by true = refl
        by false = refl

    abbrev pub FieldWithin : FieldKey → Parts → Type 0
    FieldWithin k given = (r : Text × NamedField) → finds_field p k ≡ Some r → Within value_holds (facts.fields (own_key k r)) given

    field_written : (i : Item) (to : ℕ) (v : Value) (num : Number) (given : Parts) → number_of given (is_wide_item i) ≡ Some num → value_holds given (datum_of p (kind_of w v) v) → D num to (Goes w (next (write_item i g to v)))
    field_written i to v num given e h = by i e (only p given (is_wide_item i) num e (kind_of w v) v h)
      where
        word : number_of given false ≡ Some num → IsNumber num v → D num to (Goes w (next (write g to v)))
        word e is = let n : (n : ℕ) × (num ≡ Word n) = number_width given false num e in
            subst (λ z. D z to (Goes w (next (write g to v)))) (sym n.1) (ap (λ u. Goes w (next (write g to u))) (subst (λ z. IsNumber z v) n.1 is))

        number_in_it : (n : ℕ) (v : Value) → IsNumber (Wide n) v → word_of v ≡ n
        number_in_it n (machine.Low m) i = i
        number_in_it n (machine.High m) i = i
        number_in_it n (machine.Word m) i = absurd i
        number_in_it n (machine.Object m) i = absurd i
        number_in_it n (machine.Literal t) i = absurd i
        number_in_it n (machine.Class t) i = absurd i

        by : (i : Item) → number_of given (is_wide_item i) ≡ Some num → IsNumber num v → D num to (Goes w (next (write_item i g to v)))
        by item.Wide e is = let n : (n : ℕ) × (num ≡ Wide n) = number_width given true num e in
            subst (λ z. D z to (Goes w (next (write_wide g to (word_of v))))) (sym n.1) (ap (λ m. Goes w (next (write_wide g to m))) (number_in_it n.0 v (subst (λ z. IsNumber z v) n.1 is)))
        by item.Plain e is = word e is
        by item.Object e is = word e is
        by item.Boolean e is = word e is
        by item.Byte e is = word e is
        by item.Char e is = word e is
        by item.Short e is = word e is

    abbrev frame_in : Effect → Outcome
    frame_in (Goes w1 f1) = Stays w1 f1 None
    frame_in e = Stays w g None

    field_settles : ((t : Text) → calm t ≡ true → cs t ≡ Done) → (i : Item) (to : ℕ) (k : FieldKey) (num : Number) (given : Parts) → is_quiet_field p k ≡ true → FieldWithin k given → I (form.StaticGet i to k)
        → number_of given (is_wide_item i) ≡ Some num → Settled num (form.StaticGet i to k)
    field_settles done i to k num given quiet within h e = by (finds_field p k) refl quiet
      where
        wrong : (wrong_item i k.kind || wrong_field p true k) ≡ false
        wrong = or_left (wrong_item i k.kind || wrong_field p true k) (wrong_first p k) h.right

        untrue : (b : Bool) → not b ≡ false → b ≡ true
        untrue true e = refl
        untrue false e = absurd (true≢false e)

        static : (r : Text × NamedField) → finds_field p k ≡ Some r → is_static r.1.flags ≡ true
        static r e = untrue (is_static r.1.flags) (sym (ap (λ (o : Option (Text × NamedField)). elim o as (λ o. Bool) [ Some f ↦ differ true (is_static f.1.flags) | None ↦ false ]) e) ∙ or_right (wrong_item i k.kind) (wrong_field p true k) wrong)

        by : (y : Option (Text × NamedField)) → finds_field p k ≡ y → (elim y as (λ y. Bool) [ Some z ↦ is_trivial p z.0 | None ↦ false ]) ≡ true → Settled num (form.StaticGet i to k)
        by None j t = absurd (true≢false (sym t))
        by (Some r) j t =
            let v : Value = static_value w k (place_of r.0 r.1) in
            let s = static_seen A p o f floats facts base reg w k r cw j (static r j) in
            let d : D num to (Goes w (next (write_item i g to v))) = field_written i to v num given e (within r j (datum_of p (kind_of w v) v) s) in
            ap (λ (y : Option (Text × NamedField)). reads_static need i to k w g (option_map (λ z. place_of z.0 z.1) y)) j
            ∙ ap (λ n. when_ready n w r.0 (reads_value i to (Some v) w g)) (ready_class done r.0 t)
            ∙ ap frame_in d

    -- ---- all forms

    -- what is asked beside what the frame says: of a result and of a field what the facts say that they bring
    abbrev pub Asks : Parts → Insn → Type 0
    Asks given (insn.MoveResult slot to) = B given
    Asks given (insn.StaticGet item to field) = FieldWithin (field_at program field) given × (is_always_pure program (insn.StaticGet item to field) ≡ true → is_quiet_field p (field_at program field) ≡ true)
    Asks given i = Unit {0}

    pub number_settles : ((t : Text) → calm t ≡ true → cs t ≡ Done) → (i : Insn) (num : Number) (given : Parts) → Asks given i → I (form_of program i) → number_in program given x i (result_of i) ≡ Some num → Settled num (form_of program i)
    number_settles done (insn.Move slot.Word to from) num given a h e = settles num (form.Move slot.Word to from) (narrow_move program o f floats facts base reg w cs g tw kw cw td kg top x stands to from num
        (first_seen program o f floats facts base reg w cs g tw kw cw td kg top x stands (form.Move slot.Word to from) h from [] refl) e)
    number_settles done (insn.Move slot.Object to from) num given a h e = settles num (form.Move slot.Object to from) (narrow_move program o f floats facts base reg w cs g tw kw cw td kg top x stands to from num
        (first_seen program o f floats facts base reg w cs g tw kw cw td kg top x stands (form.Move slot.Object to from) h from [] refl) e)
    number_settles done (insn.Move slot.Wide to from) num given a h e = settles num (form.Move slot.Wide to from) (wide_move to from num h e)
    number_settles done (insn.MoveResult s to) num given a h e = settles num (form.MoveResult s to) (results program o f floats facts base reg w cs g tw kw cw td kg top x stands s to num given h a e)
    number_settles done (insn.MoveException to) num given a h e = no_number program o f floats facts base reg w cs g tw kw cw td kg top x stands to any_object num refl e
    number_settles done (insn.ConstString to string) num given a h e = no_number program o f floats facts base reg w cs g tw kw cw td kg top x stands to any_object num refl e
    number_settles done (insn.ConstClass to kind) num given a h e = no_number program o f floats facts base reg w cs g tw kw cw td kg top x stands to any_object num refl e
    number_settles done (insn.InstanceOf to from kind) num given a h e = no_number program o f floats facts base reg w cs g tw kw cw td kg top x stands to truth num refl e
    number_settles done (insn.Cmp op to r s) num given a h e = settles num (form.Cmp op to r s) (compares program o f floats facts base reg w cs g tw kw cw td kg top x stands op to r s num h e)
    number_settles done (insn.StaticGet i to field) num given a h e = chosen (is_always_pure program (insn.StaticGet i to field)) (number_of (value_at (put_sized (is_wide_item i) to given x) to) (is_wide_item i)) num e
        (λ q k. field_settles done i to (field_at program field) num given (a.1 q) a.0 h (ap (λ v. number_of v (is_wide_item i)) (sym (sized_there (is_wide_item i) to given x)) ∙ k))
    number_settles done (insn.Unary op to from) num given a h e = settles num (form.Unary op to from) (unaries program o f floats facts base reg w cs g tw kw cw td kg top x stands op to from num h e)
    number_settles done (insn.Binary op to r s) num given a h e = settles num (form.Binary op to r s) (binaries program o f floats facts base reg w cs g tw kw cw td kg top x stands op to r s num h e)
    number_settles done (insn.Literal op to r value) num given a h e = settles num (form.Literal op to r value) (literals program o f floats facts base reg w cs g tw kw cw td kg top x stands op to r value num h e)
    number_settles done i num given a h e = absurd (cc)
