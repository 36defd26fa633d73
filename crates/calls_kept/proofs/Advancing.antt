-- In each state of a run a step in a quiet method advances: it goes on at a lower rank, calls a quiet method of lower rank, or ends.
use Rattle.std.proofs.Common.{◌≡◌, ◌⊎◌, inl, inr, ℕ, zero, suc, ◌+◌, ◌<◌, ℤ, pos, Bool, true, false, true≢false, List, [], ◌∷◌, ◌++◌, length, map, Option, Some, None, refl, sym, ap, ◌∙◌, subst, arith}
use Rattle.std.specs.Prelude.{◌&&◌, ◌||◌, not, cond, nat_lt, is_some, slice_get, if◌then◌else◌, Contains, ◌^◌}
use Rattle.std.specs.Int.{w32, w64, cast_unsigned}
use Rattle.std.specs.Option.{option_map, unwrap_or}
use Rattle.std.specs.Ordering.{int_eq}
use Rattle.insn_set.specs.Flow.{divides, divides_by_literal, targets_of}
use Rattle.insn_set.specs.Widths.{binary_is_wide, second_is_wide}
use Rattle.insn_set.specs.declared.ops.Item.{Item}
use Rattle.insn_set.specs.declared.ops.Item.TheVariants as item
use Rattle.insn_set.specs.declared.ops.Slot.TheVariants as slot
use Rattle.insn_set.specs.declared.ops.BinaryOp.{BinaryOp}
use Rattle.insn_set.specs.declared.ops.InvokeKind.TheVariants as call
use Rattle.insn_set.specs.declared.form.Insn.{Insn}
use Rattle.insn_set.specs.declared.form.Insn.TheVariants as insn
use Rattle.program_model.specs.OperandRules.{numbers_fit}
use Rattle.program_model.specs.Lookups as look
use Rattle.program_model.specs.declared.body.Body.{Body}
use Rattle.program_model.specs.declared.pools.MethodName.{MethodName}
use Rattle.program_model.specs.declared.program.Method.{Method}
use Rattle.program_model.specs.declared.program.MethodAt.{MethodAt}
use Rattle.program_model.specs.declared.program.Program.{Program}
use Rattle.class_defs.specs.Finding.{by_entry, finds_from, finds_static, resolves_field}
use Rattle.class_defs.specs.Starts.{is_trivial}
use Rattle.class_defs.proofs.WellFormed.{Sound}
use Rattle.dalvik_defs.specs.Act.{act}
use Rattle.dalvik_defs.specs.ActNumber.{number, sets_number}
use Rattle.dalvik_defs.specs.ActPlain.{branch, goes_to, packed_target, switch_target}
use Rattle.dalvik_defs.specs.Arith.{passes, signed}
use Rattle.dalvik_defs.specs.Effect.{Effect, Goes, Gives, register, next, go, write, write_wide, write_item}
use Rattle.dalvik_defs.specs.Face.{Bodies, Place, face_of, bodies_of, place_of}
use Rattle.dalvik_defs.specs.Fields.{static_value}
use Rattle.dalvik_defs.specs.Find.{finds_field}
use Rattle.dalvik_defs.specs.Happens.{Setting}
use Rattle.dalvik_defs.specs.Initialised as initialised
use Rattle.dalvik_defs.specs.Names.{Text}
use Rattle.dalvik_defs.specs.Naming.{body_of, field_at, form_of, named}
use Rattle.dalvik_defs.specs.Naming as naming
use Rattle.dalvik_defs.specs.Operators.{Number, OneWord, OneWide, unary_answer, sort_of}
use Rattle.dalvik_defs.specs.Outcome.{Stays, Ends, need_of, outcome, reads_static, reads_value, when_ready}
use Rattle.dalvik_defs.specs.Outer.{Outer}
use Rattle.dalvik_defs.specs.Stack.{form_at as form_here}
use Rattle.dalvik_defs.specs.State.{World, Classes, kind_of, word_of}
use Rattle.dalvik_defs.specs.declared.state.Frame.{Frame}
use Rattle.dalvik_defs.specs.declared.state.Value.{Value}
use Rattle.dalvik_defs.specs.declared.state.Value.TheVariants as machine
use Rattle.dalvik_defs.specs.declared.forms.Form.{Form}
use Rattle.dalvik_defs.specs.declared.forms.Form.TheVariants as form
use Rattle.dalvik_defs.specs.declared.names.FieldKey.{FieldKey}
use Rattle.dalvik_defs.specs.declared.names.MethodKey.{MethodKey}
use Rattle.dalvik_defs.specs.declared.program.NamedField.{NamedField}
use Rattle.dalvik_defs.specs.declared.program.NamedProgram.{NamedProgram}
use Rattle.dalvik_defs.specs.declared.script.Move.{Move}
use Rattle.dalvik_defs.specs.declared.tables.Floats.{Floats}
use Rattle.dalvik_defs.specs.declared.tables.Framework.{Framework}
use Rattle.dalvik_defs.proofs.Frames.{now}
use Rattle.domains.specs.Values.{Parts, value_holds}
use Rattle.value_ops.specs.Left.{is_nothing}
use Rattle.dom_frame.specs.Registers.{Registers, value_at}
use Rattle.dom_frame.specs.declared.frames.Frame.{Frame as Values}
use Rattle.facts.specs.declared.facts.Facts.{Facts}
use Rattle.closed_facts.specs.Edges as numbered
use Rattle.facts_kept.specs.Names.{by_names, method_number, named_facts, values_of}
use Rattle.facts_kept.proofs.Edges.{edges_same}
use Rattle.facts_kept.proofs.Fielding.{gets_same}
use Rattle.facts_kept.proofs.Fits.{Owner, owner_of, all_fit}
use Rattle.facts_kept.proofs.Numbers.{IsNumber, number_of_method}
use Rattle.facts_kept.proofs.Defining.{same_number}
use Rattle.bodies_kept.proofs.Quieting.{pure_named}
use Rattle.pass_defs.specs.Analysis.{Analysis}
use Rattle.pass_defs.specs.Facts as by_name
use Rattle.pass_defs.specs.Pure.{is_quiet_field}
use Rattle.run_laws.proofs.Fine.{each_get}
use Rattle.lemmas.proofs.Bools.{and_left, and_right, and_false}
use Rattle.lemmas.proofs.Lists.{contains_here, get_there, got_short}
use Rattle.lemmas.proofs.Options.{none_some, some_same}
use Rattle.removal_bridge.proofs.Formed.{no_object}
use Rattle.form_laws.specs.Changes.{operands}
use Rattle.run_facts.specs.Closed as name
use Rattle.run_facts.specs.ValueAnalysis.{datum_of, value_analysis}
use Rattle.run_laws.proofs.Settled.{IsSettled}
use Rattle.cover_law.specs.Coverable.{IsFormed}
use Rattle.cover_law.specs.Sound.{NumberOf, IsSmall}
use Rattle.cover_law.proofs.Along.{Along, Looks, IsTold, Suits, act_along}
use Rattle.cover_law.proofs.Ready.{IsReady}
use Rattle.cover_law.proofs.Stays.{Is, looks, there, arrays}
use Rattle.cover_law.proofs.Suits.{suits}
use Rattle.cover_law.proofs.Waiting.{formed}
use Rattle.cover_law.specs.Operators.{operators}
use Rattle.thin_laws.proofs.Tidied.{code_rules}
use Rattle.bodies_kept.proofs.Inside.{some_position, get_contains}
use Rattle.quiet_methods.specs.Forms.{quiet_if, starts_quietly, gets_quietly, method_demand, found_demand, call_demand, never_throws, form_demand, demand, one_if, division_ways, ways}
use Rattle.quiet_methods.specs.Settled.{rank_at, IsLower}
use Rattle.quiet_methods.specs.Bodies.{frame_in, demand_in, ways_in}
use Rattle.quiet_methods.specs.Quiet.{is_on, frames_of, ranks_of, IsCode, IsMet, IsQuietAt, IsQuietBody, AreQuiet}
use Rattle.quiet_methods.specs.Falling.{rank_of, Falls}
use Rattle.quiet_methods.proofs.Falling.{ranks_fall}
use Rattle.thin_laws.specs.Calls.{Rank, EntersQuietly, Advances, GoesOn, CallsOne, EndsIt}
use Rattle.calls_kept.proofs.Standing.{alone, Run, Stands, Framed, framed, same_code, form_same, form_there, code, insn as insn_of, method as method_of, body as code_of, A, T, S, settled, based, setting}
use Rattle.calls_kept.proofs.Ways.{IsBranch, OnTest, OnZero, Packed, Sparse, edge_in_ways, Listed, listed}
use Rattle.calls_kept.proofs.Dividing.{Writes, something, binary_writes, literal_writes}
use Rattle.calls_kept.proofs.Entering.{QuietKey, QuietTarget, target_of, now_is, ready_class, EntersIt, static_enters}

module _ (program : Program) (facts : Facts) (o : Outer) (f : Framework) (floats : Floats) (script : List Move) (run : Run program facts o f floats script) (marks : List Bool) (are : AreQuiet program facts.frames.items marks) where
  abbrev p : NamedProgram
  p = named program

  abbrev s : Setting
  s = setting program facts o f floats script run

  abbrev fd : Bodies
  fd = bodies_of (named program)

  abbrev sd : Sound program
  sd = S program facts o f floats script run

  abbrev an : Analysis Parts
  an = A program facts o f floats script run

  abbrev tf : by_name.Facts Parts
  tf = T program facts o f floats script run

  abbrev rd : IsReady (value_analysis (named program) operators) (named program) o f floats (named_facts program facts)
  rd = based program facts o f floats script run

  abbrev reg : IsSettled (named program)
  reg = settled program facts o f floats script run

  abbrev frames : List (List (Option Values))
  frames = facts.frames.items

  -- the rank of a position by the name of its method
  abbrev pub rank : Rank
  rank k n = rank_of are.levels are.ranks (unwrap_or (method_number program k) 0) n

  rank_is : (k : MethodKey) (m n : ℕ) → IsNumber program sd k m → rank k n ≡ rank_of are.levels are.ranks m n
  rank_is k m n h = ap (λ x. rank_of are.levels are.ranks (unwrap_or x 0) n) (number_of_method program sd k m h)

  falls : Falls program frames marks (rank_of are.levels are.ranks)
  falls = ranks_fall program frames marks are

  level_of : (k : ℕ) → is_on marks k ≡ true → (l : ℕ) × (rank_at are.levels k ≡ Some l)
  level_of k on = by (rank_at are.levels k) refl (sym (are.marked k) ∙ on)
    where
      by : (x : Option ℕ) → rank_at are.levels k ≡ x → is_some x ≡ true → (l : ℕ) × (rank_at are.levels k ≡ Some l)
      by None i j = absurd (true≢false (sym j))
      by (Some l) i j = (l, i)

  -- ---- a state of the run in a quiet method

  module _ (w : World) (cs : Classes) (g : Frame) (st : Stands program facts o f floats script run w cs g) (key : QuietKey program (S program facts o f floats script run) marks g.method) where
    abbrev m : Method
    m = method_of program facts o f floats script run w cs g st

    abbrev b : Body
    b = code_of program facts o f floats script run w cs g st

    abbrev i0 : Insn
    i0 = insn_of program facts o f floats script run w cs g st

    abbrev n : ℕ
    n = g.position

    abbrev x : Registers
    x = st.number.here.registers

    is_code : IsCode program m b
    is_code = code program facts o f floats script run w cs g st

    on : is_on marks m.name ≡ true
    on = ap (is_on marks) (same_number program sd g.method m.name key.number st.number.number key.is_number) ∙ key.on

    abbrev Adv : Type 0
    Adv = Advances s fd (QuietKey program sd marks) rank w cs g

    fr : Framed program facts o f floats script run w cs g st
    fr = framed program facts o f floats script run w cs g st

    abbrev level : ℕ
    level = (level_of m.name on).0

    quiet_at : IsQuietAt program (frame_in (frames_of frames m.name) n) are.levels level (ranks_of are.ranks m.name) n i0
    quiet_at = (are.quiet m b level is_code (alone program run.fits run.once m b is_code) (level_of m.name on).1).forms n i0 st.number.here.has_insn

    demand_is : demand_in program (frame_in (frames_of frames m.name) n) i0 ≡ demand program x i0
    demand_is = ap (λ z. demand_in program z i0) fr.there ∙ ap (λ z. demand program z i0) fr.registers

    met : IsMet are.levels level (demand program x i0)
    met = subst (IsMet are.levels level) demand_is quiet_at.met

    -- it has few targets
    record Small (i : Insn) : Type 0 where
      few : nat_lt (length (targets_of i)) 4294967296 ≡ true
      asks : IsMet are.levels level (form_demand program x i)

    small : Small i0
    small = by (nat_lt (length (targets_of i0)) 4294967296) refl met
      where
        by : (c : Bool) → nat_lt (length (targets_of i0)) 4294967296 ≡ c → IsMet are.levels level (if c then form_demand program x i0 else quiet_if false) → Small i0
        by true e h = record { few = e; asks = h }
        by false e h = absurd h

    here_rank : (k : ℕ) → rank g.method k ≡ rank_of are.levels are.ranks m.name k
    here_rank k = rank_is g.method m.name k st.number.number

    lower : (t : ℕ) → Contains (ways i0 n x) t → rank g.method t < rank g.method n
    lower t h =
        let l = falls.way m b is_code (alone program run.fits run.once m b is_code) on n i0 st.number.here.has_insn t
        (subst (λ z. Contains (ways_in z i0 n) t) (sym fr.there) (subst (λ c. Contains (if c then ways i0 n fr.frame.registers else []) t) (sym small.few) (subst (λ z. Contains (ways i0 n z) t) (sym fr.registers) h))) in
        omega (arith, here_rank t, here_rank n, l)

    -- the form of an instruction that stands there
    here_is : (i : Insn) → i0 ≡ i → form_here fd g ≡ Some (form_of program i)
    here_is i e = form_there program facts o f floats script run w cs g st ∙ ap Some (sym (form_same program facts o f floats script run w cs g st) ∙ ap (form_of program) e)

    form_is : (i : Insn) → i0 ≡ i → st.form ≡ form_of program i
    form_is i e = sym (form_same program facts o f floats script run w cs g st) ∙ ap (form_of program) e

    now_so : (y : Form) → form_here fd g ≡ Some y → now s fd w cs g ≡ outcome (face_of p f) (need_of (face_of p f) cs) (act (face_of p f).under floats y w g) w g
    now_so y e = now_is program facts o f floats script run marks w cs g st y e

    ways_at : (i : Insn) → i0 ≡ i → (t : ℕ) → Contains (ways i n x) t → rank g.method t < rank g.method n
    ways_at i e t h = lower t (subst (λ j. Contains (ways j n x) t) (sym e) h)

    -- it goes on in the frame
    goes : (i : Insn) (e : i0 ≡ i) (g1 : Frame) → act (face_of p f).under floats (form_of program i) w g ≡ Goes w g1 → g1.method ≡ g.method → Contains (ways i n x) g1.position → Adv
    goes i e g1 does same way = GoesOn g1 (now_so (form_of program i) (here_is i e) ∙ ap (λ z. outcome (face_of p f) (need_of (face_of p f) cs) z w g) does) same (ways_at i e g1.position way)

    first : (t : ℕ) → Contains (t ∷ []) t
    first t = contains_here t []

    ends : (i : Insn) → i0 ≡ i → (v : Option Value) → act (face_of p f).under floats (form_of program i) w g ≡ Gives v → Adv
    ends i e v does = EndsIt v (now_so (form_of program i) (here_is i e) ∙ ap (λ z. outcome (face_of p f) (need_of (face_of p f) cs) z w g) does)

    -- ---- operands

    at_of : (y : Form) → st.form ≡ y → Is an p o f floats tf rd reg w cs g st.tw st.kw st.cw st.td st.kg st.top y
    at_of y e = subst (Is an p o f floats tf rd reg w cs g st.tw st.kw st.cw st.td st.kg st.top) e st.at

    formed_so : (y : Form) → st.form ≡ y → IsFormed y
    formed_so y e = formed an p o f floats tf rd reg w cs g st.tw st.kw st.cw st.td st.kg st.top y (at_of y e)

    suited : (y : Form) → st.form ≡ y → Suits g y
    suited y e = suits p o f floats reg w cs g st.tw st.td st.kg.ranged y (at_of y e) (formed_so y e)

    abbrev X : ℕ → Parts
    X = st.top.stands.registers

    looked : (y : Form) → (e : st.form ≡ y) → Looks an p tf (face_of p f).under floats rd.sound w g X st.top.stands.hold (there an p o f floats tf rd reg w cs g st.tw st.kw st.cw st.td st.kg st.top) (arrays an p o f floats tf rd reg w cs g st.tw st.kw st.cw st.td st.kg st.top) (operands y)
    looked y e = looks an p o f floats tf rd reg w cs g st.tw st.kw st.cw st.td st.kg st.top y (at_of y e)

    -- what the facts know by number of an operand
    seen_by_number : (r : ℕ) → value_holds (X r) (datum_of p (kind_of w (register g r)) (register g r)) → value_holds (value_at x r) (datum_of p (kind_of w (register g r)) (register g r))
    seen_by_number r h = subst (λ (z : ℕ → Parts). value_holds (z r) (datum_of p (kind_of w (register g r)) (register g r))) (sym st.number.registers_are) h

    -- ---- branches

    abbrev Alongs : Form → Effect → Type 0
    Alongs y = Along an p tf (face_of p f).under floats rd.sound w g X st.top.stands.hold (there an p o f floats tf rd reg w cs g st.tw st.kw st.cw st.td st.kg st.top) (arrays an p o f floats tf rd reg w cs g st.tw st.kw st.cw st.td st.kg st.top) (name.edges an p tf n y X)

    fits_here : (i : Insn) → i0 ≡ i → numbers_fit i program ≡ true
    fits_here i e = subst (λ j. numbers_fit j program ≡ true) e (all_fit program sd facts st.number.code.at n st.number.here)

    -- where it goes by the facts is one of the ways
    along_way : (i : Insn) (e : i0 ≡ i) → IsBranch i → (g1 : Frame) → Alongs (form_of program i) (Goes w g1) → Contains (ways i n x) g1.position
    along_way i e is g1 (q, inside, at, all) =
        let edges : Contains (map by_names (numbered.edges program facts n i x)) q =
        subst (λ l. Contains l q) (edges_same program sd run.once (no_object program run.fits) tf facts (gets_same program sd facts run.once (no_object program run.fits)) n i (fits_here i e) x)
        (subst (λ z. Contains (name.edges an p tf n (form_of program i) z) q) (sym st.number.registers_are) inside) in
        let l : Listed by_names (numbered.edges program facts n i x) q = listed by_names (numbered.edges program facts n i x) q edges in
        subst (Contains (ways i n x)) (ap (λ z. z.0) l.is ∙ sym at) (edge_in_ways program facts n i x l.entry is l.there)

    branch_goes : (i : Insn) (e : i0 ≡ i) → IsBranch i → (c : Bool) (target : ℕ) → act (face_of p f).under floats (form_of program i) w g ≡ branch c w g target → Alongs (form_of program i) (branch c w g target) → Adv
    branch_goes i e is true target does al = goes i e (go g target) does refl (along_way i e is (go g target) al)
    branch_goes i e is false target does al = goes i e (next g) does refl (along_way i e is (next g) al)

    switch_goes : (i : Insn) (e : i0 ≡ i) → IsBranch i → (t : Option ℕ) → act (face_of p f).under floats (form_of program i) w g ≡ goes_to t w g → Alongs (form_of program i) (goes_to t w g) → Adv
    switch_goes i e is None does al = goes i e (next g) does refl (along_way i e is (next g) al)
    switch_goes i e is (Some t) does al = goes i e (go g t) does refl (along_way i e is (go g t) al)

    alongs : (y : Form) (e : st.form ≡ y) → IsTold an p tf (face_of p f).under floats rd.sound w g X st.top.stands.hold (there an p o f floats tf rd reg w cs g st.tw st.kw st.cw st.td st.kg st.top) (arrays an p o f floats tf rd reg w cs g st.tw st.kw st.cw st.td st.kg st.top) y
        → Alongs y (act (face_of p f).under floats y w g)
    alongs y e told = act_along an p tf (face_of p f).under floats rd.sound w g X st.top.stands.hold (there an p o f floats tf rd reg w cs g st.tw st.kw st.cw st.td st.kg st.top) (arrays an p o f floats tf rd reg w cs g st.tw st.kw st.cw st.td st.kg st.top) y told (looked y e)

    -- ---- numbers

    quiet_true : (c : Bool) → IsMet are.levels level (quiet_if c) → c ≡ true
    quiet_true true h = refl
    quiet_true false h = absurd h

    unary_goes : (i : Insn) (e : i0 ≡ i) (a : Number) (to : ℕ) → ways i n x ≡ (n + 1) ∷ [] → act (face_of p f).under floats (form_of program i) w g ≡ sets_number a w g to → Adv
    unary_goes i e (OneWord k) to way does = goes i e (next (write g to (machine.Word k))) does refl (subst (λ l. Contains l (n + 1)) (sym way) (first (n + 1)))
    unary_goes i e (OneWide k) to way does = goes i e (next (write_wide g to k)) does refl (subst (λ l. Contains l (n + 1)) (sym way) (first (n + 1)))

    writes_goes : (i : Insn) (e : i0 ≡ i) (wide : Bool) (to : ℕ) → ways i n x ≡ (n + 1) ∷ [] → Writes floats w g wide to (act (face_of p f).under floats (form_of program i) w g) → Adv
    writes_goes i e wide to way h = goes i e (record g { position = n + 1; registers = h.registers }) h.is refl (subst (λ l. Contains l (n + 1)) (sym way) (first (n + 1)))

    -- what divides by something goes on
    division_goes : (op : BinaryOp) (v : Parts) → is_nothing v ≡ false → division_ways op v n ≡ (n + 1) ∷ []
    division_goes op v e = ap (λ c. one_if (not c) (n + 1)) (ap (λ c. divides op && c) e ∙ and_false (divides op))

    -- ---- a field of a class that is done

    static_goes : (i : Item) (to field : ℕ) (e : i0 ≡ insn.StaticGet i to field) → gets_quietly program field ≡ true → Adv
    static_goes i to field e h = by (finds_field p k) refl quiet
      where
        k : FieldKey
        k = field_at program field

        only_trivial : (x : Option (ℕ × ℕ)) → (elim x as (λ x. Bool) [ Some at ↦ starts_quietly program at.0 | None ↦ false ]) ≡ true → (elim x as (λ x. Bool) [ Some at ↦ is_trivial program at.0 | None ↦ false ]) ≡ true
        only_trivial None j = j
        only_trivial (Some at) j = and_right (nat_lt at.0 (length program.classes)) (is_trivial program at.0) j

        quiet : is_quiet_field p k ≡ true
        quiet = pure_named program run.fits run.once (insn.StaticGet i to field) (only_trivial (resolves_field program field) h)

        after_get : (i : Item) (v : Value) → (next (write_item i g to v)).position ≡ n + 1
        after_get item.Wide v = refl
        after_get i v = refl

        still_method : (i : Item) (v : Value) → (next (write_item i g to v)).method ≡ g.method
        still_method item.Wide v = refl
        still_method i v = refl

        by : (y : Option (Text × NamedField)) → finds_field p k ≡ y → (elim y as (λ y. Bool) [ Some z ↦ initialised.is_trivial p z.0 | None ↦ false ]) ≡ true → Adv
        by None j t = absurd (true≢false (sym t))
        by (Some r) j t = let v : Value = static_value w k (place_of r.0 r.1) in
            GoesOn (next (write_item i g to v))
            (now_so (form.StaticGet i to k) (here_is (insn.StaticGet i to field) e)
            ∙ ap (λ (y : Option (Text × NamedField)). reads_static (need_of (face_of p f) cs) i to k w g (option_map (λ z. place_of z.0 z.1) y)) j
            ∙ ap (λ z. when_ready z w r.0 (reads_value i to (Some v) w g)) (ready_class program facts o f floats script run marks w cs g st r.0 t))
            (still_method i v) (subst (λ t. rank g.method t < rank g.method n) (sym (after_get i v)) (ways_at (insn.StaticGet i to field) e (n + 1) (first (n + 1))))

    -- ---- calls

    low_of : (callee : ℕ) (at : MethodAt) → finds_static program callee ≡ Some at → callee < length program.methods
    low_of callee at e = by (slice_get program.methods callee) refl e
      where
        by : (y : Option MethodName) → slice_get program.methods callee ≡ y → by_entry (λ q. finds_from program q.name q.proto (look.class_place program q.class)) y ≡ Some at → callee < length program.methods
        by None i j = none_some at j
        by (Some q) i j = got_short program.methods callee q i

    -- what a call asks for that finds a method with this code in a class that runs no code
    abbrev coded : Method → Body → Method
    coded method code' = record method { body = Some code' }

    -- the method that is called
    record Called (callee : ℕ) : Type 0 where
      at : MethodAt
      found : finds_static program callee ≡ Some at
      method : Method
      body : Body
      there : look.method_at program at ≡ Some method
      has_code : method.body ≡ Some body
      starts : starts_quietly program at.class ≡ true
      asks : demand_in program (frame_in (frames_of frames m.name) n) i0 ≡ method_demand true (Some (coded method body))

    called_so : (callee : ℕ) (args : List ℕ) (e : i0 ≡ insn.Invoke call.Static callee args) → IsMet are.levels level (found_demand program (finds_static program callee)) → Called callee
    called_so callee args e h = by (finds_static program callee) refl h
      where
        in_code : (at : MethodAt) → finds_static program callee ≡ Some at → (m' : Method) → look.method_at program at ≡ Some m' → starts_quietly program at.class ≡ true
            → (o : Option Body) → m'.body ≡ o → IsMet are.levels level (method_demand true (Some (record m' { body = o }))) → Called callee
        in_code at i m' j z None l h = absurd h
        in_code at i m' j z (Some code') l h = record {
          at = at;
          found = i;
          method = m';
          body = code';
          there = j;
          has_code = l;
          starts = z;
          asks = demand_is ∙ ap (demand program x) e ∙ ap (λ c. if c then form_demand program x (insn.Invoke call.Static callee args) else quiet_if false) (sym (ap (λ i. nat_lt (length (targets_of i)) 4294967296) e) ∙ small.few)
              ∙ ap (found_demand program) i ∙ ap (method_demand (starts_quietly program at.class)) j ∙ ap (λ c. method_demand c (Some m')) z ∙ ap (λ (o : Option Body). method_demand true (Some (record m' { body = o }))) l;
        }

        in_class : (at : MethodAt) → finds_static program callee ≡ Some at → (m' : Method) → look.method_at program at ≡ Some m' → (c : Bool) → starts_quietly program at.class ≡ c → IsMet are.levels level (method_demand c (Some m')) → Called callee
        in_class at i m' j false z h = absurd h
        in_class at i m' j true z h = in_code at i m' j z m'.body refl h

        in_method : (at : MethodAt) → finds_static program callee ≡ Some at → (y : Option Method) → look.method_at program at ≡ y → IsMet are.levels level (method_demand (starts_quietly program at.class) y) → Called callee
        in_method at i None j k = absurd k
        in_method at i (Some m') j k = in_class at i m' j (starts_quietly program at.class) refl k

        by : (y : Option MethodAt) → finds_static program callee ≡ y → IsMet are.levels level (found_demand program y) → Called callee
        by None i k = absurd k
        by (Some at) i k = in_method at i (look.method_at program at) refl k

    static_calls : (callee : ℕ) (args : List ℕ) (e : i0 ≡ insn.Invoke call.Static callee args) → IsMet are.levels level (found_demand program (finds_static program callee)) → Adv
    static_calls callee args e h = CallsOne enters.call below (ways_at (insn.Invoke call.Static callee args) e (n + 1) (first (n + 1)))
      where
        c : Called callee
        c = called_so callee args e h

        marked : is_on marks c.method.name ≡ true
        marked = falls.marked m b is_code (alone program run.fits run.once m b is_code) on n i0 st.number.here.has_insn c.method.name c.asks

        target : QuietTarget program marks c.at
        target = target_of program facts o f floats script run marks c.at c.method c.there (ap is_some c.has_code) marked c.starts

        enters : EntersIt program facts o f floats script run marks w cs g st c.at target
        enters = static_enters program facts o f floats script run marks w cs g st c.at target callee args (here_is (insn.Invoke call.Static callee args) e) (low_of callee c.at c.found) c.found

        owner : Owner program c.at target.method
        owner = owner_of program c.at target.method target.there

        code' : IsCode program target.method target.body
        code' = record { at = c.at.class; place = c.at.place; class = owner.class; defines = owner.is_class; there = owner.is_method; coded = target.coded }

        entry : (i : Insn) × (slice_get target.body.insns 0 ≡ Some i)
        entry = get_there target.body.insns 0 (some_position program target.body (code_rules program owner.class target.method target.body run.fits
            (get_contains program.classes c.at.class owner.class owner.is_class) (get_contains owner.class.methods c.at.place target.method owner.is_method) target.coded).0)

        same_name : target.method.name ≡ c.method.name
        same_name = ap (λ (z : Method). z.name) (some_same target.method c.method (sym target.there ∙ c.there))

        below : rank enters.call.method 0 < rank g.method n
        below =
            let l = falls.call m b is_code (alone program run.fits run.once m b is_code) on n i0 st.number.here.has_insn target.method target.body entry.0 code' (alone program run.fits run.once target.method target.body code') entry.1
            (c.asks ∙ ap (λ (k : ℕ). method_demand true (Some (record c.method { name = k; body = Some c.body }))) (sym same_name)) in
            omega (arith, rank_is enters.call.method target.method.name 0 enters.is_number, here_rank n, l)

    -- ---- all forms

    by_form : (i : Insn) (e : i0 ≡ i) → IsMet are.levels level (form_demand program x i) → Adv
    by_form insn.Nop e h = goes insn.Nop e (next g) refl refl (first (n + 1))
    by_form (insn.Move slot.Word to from) e h = goes (insn.Move slot.Word to from) e (next (write g to (register g from))) refl refl (first (n + 1))
    by_form (insn.Move slot.Object to from) e h = goes (insn.Move slot.Object to from) e (next (write g to (register g from))) refl refl (first (n + 1))
    by_form (insn.Move slot.Wide to from) e h = goes (insn.Move slot.Wide to from) e (next (write (write g to (register g from)) (to + 1) (register g (from + 1)))) refl refl (first (n + 1))
    by_form (insn.MoveResult slot.Word to) e h = goes (insn.MoveResult slot.Word to) e (next (write g to g.result)) refl refl (first (n + 1))
    by_form (insn.MoveResult slot.Object to) e h = goes (insn.MoveResult slot.Object to) e (next (write g to g.result)) refl refl (first (n + 1))
    by_form (insn.MoveResult slot.Wide to) e h = goes (insn.MoveResult slot.Wide to) e (next (write_wide g to (word_of g.result))) refl refl (first (n + 1))
    by_form (insn.MoveException to) e h = goes (insn.MoveException to) e (next (write g to g.caught)) refl refl (first (n + 1))
    by_form (insn.Const to value) e h = goes (insn.Const to value) e (next (write g to (machine.Word (cast_unsigned w32 value)))) refl refl (first (n + 1))
    by_form (insn.ConstWide to value) e h = goes (insn.ConstWide to value) e (next (write_wide g to (cast_unsigned w64 value))) refl refl (first (n + 1))
    by_form (insn.ConstString to string) e h = goes (insn.ConstString to string) e _ refl refl (first (n + 1))
    by_form (insn.ConstClass to kind) e h = goes (insn.ConstClass to kind) e _ refl refl (first (n + 1))
    by_form (insn.InstanceOf to from kind) e h = goes (insn.InstanceOf to from kind) e _ refl refl (first (n + 1))
    by_form (insn.Cmp op to a c) e h = goes (insn.Cmp op to a c) e _ refl refl (first (n + 1))
    by_form (insn.Unary op to from) e h = unary_goes (insn.Unary op to from) e (unary_answer floats op (number g from)) to refl refl
    by_form (insn.Goto target) e h = goes (insn.Goto target) e (go g target) refl refl (first target)
    by_form (insn.If test a c target) e h = branch_goes (insn.If test a c target) e (OnTest test a c target) (passes test (register g a) (register g c)) target refl
        (alongs (form.If test a c target) (form_is (insn.If test a c target) e) (suited (form.If test a c target) (form_is (insn.If test a c target) e)))
    by_form (insn.IfZero test a target) e h = branch_goes (insn.IfZero test a target) e (OnZero test a target) (passes test (register g a) (machine.Word 0)) target refl
        (alongs (form.IfZero test a target) (form_is (insn.IfZero test a target) e) (suited (form.IfZero test a target) (form_is (insn.IfZero test a target) e)))
    by_form (insn.PackedSwitch on1 first1 targets) e h = switch_goes (insn.PackedSwitch on1 first1 targets) e (Packed on1 first1 targets) (packed_target (number g on1) first1 targets) refl
        (alongs (form.PackedSwitch on1 first1 targets) (form_is (insn.PackedSwitch on1 first1 targets) e)
        (formed_so (form.PackedSwitch on1 first1 targets) (form_is (insn.PackedSwitch on1 first1 targets) e), suited (form.PackedSwitch on1 first1 targets) (form_is (insn.PackedSwitch on1 first1 targets) e)))
    by_form (insn.SparseSwitch on1 keys targets) e h = switch_goes (insn.SparseSwitch on1 keys targets) e (Sparse on1 keys targets) (switch_target (signed false (number g on1)) keys targets) refl
        (alongs (form.SparseSwitch on1 keys targets) (form_is (insn.SparseSwitch on1 keys targets) e) (suited (form.SparseSwitch on1 keys targets) (form_is (insn.SparseSwitch on1 keys targets) e)))
    by_form insn.ReturnVoid e h = ends insn.ReturnVoid e None refl
    by_form (insn.Return t from) e h = ends (insn.Return t from) e (Some (register g from)) refl
    by_form (insn.Binary op to a c) e h = let y = form.Binary op to a c in let l = looked y (form_is (insn.Binary op to a c) e) in
        writes_goes (insn.Binary op to a c) e (binary_is_wide op) to (division_goes op (value_at x c) (something p (value_at x c) (kind_of w (register g c)) (register g c) (seen_by_number c l.1.0)))
        (binary_writes floats w g p op to a c (value_at x c) (suited y (form_is (insn.Binary op to a c) e)).1 (seen_by_number c l.1.0) (quiet_true (never_throws op (value_at x c)) h))
    by_form (insn.Literal op to a value) e h = writes_goes (insn.Literal op to a value) e false to refl
        (literal_writes floats w g op to a value (suited (form.Literal op to a value) (form_is (insn.Literal op to a value) e)).1 (quiet_true (not (divides_by_literal op) || not (int_eq value (pos 0))) h))
    by_form (insn.StaticGet i to field) e h = static_goes i to field e (quiet_true (gets_quietly program field) h)
    by_form (insn.Invoke call.Static callee args) e h = static_calls callee args e h
    by_form (insn.Invoke kind callee args) e h = absurd h
    by_form i e h = absurd h

    pub advances : Advances (setting program facts o f floats script run) (bodies_of (named program)) (QuietKey program (S program facts o f floats script run) marks) rank w cs g
    advances = by_form i0 refl small.asks
