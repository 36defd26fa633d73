-- A site by number is one by name: what it finds, that this is a sound callee, and that it may be copied there.
use Rattle.std.proofs.Common.{◌≡◌, ℕ, zero, suc, ◌+◌, ◌-◌, ◌*◌, ◌<◌, ◌≤◌, Bool, true, false, true≢false, List, [], ◌∷◌, length, map, Option, Some, None, refl, sym, ap, ap₂, ◌∙◌, subst, arith, lt-ltb}
use Rattle.std.specs.Prelude.{◌&&◌, not, if◌then◌else◌, nat_lt, slice_get, option_and_then, sum_by, Contains}
use Rattle.std.specs.List.{list_all, list_any}
use Rattle.std.specs.Option.{option_map}
use Rattle.std.proofs.lemmas.Bool.{eqb-true}
use Rattle.std.proofs.lemmas.List.Sums.{sum_by-cons}
use Rattle.lemmas.proofs.Bools.{and_left, and_right, not_true, clash}
use Rattle.lemmas.proofs.Lists.{contains_here, contains_there, get_map, got_short, map_long}
use Rattle.lemmas.proofs.Options.{none_some, some_same, before_map}
use Rattle.insn_set.specs.Flow.{targets_of}
use Rattle.insn_set.specs.Widths.{is_wide_slot}
use Rattle.insn_set.specs.declared.ops.Slot.{Slot}
use Rattle.insn_set.specs.declared.ops.Slot.TheVariants as slot
use Rattle.insn_set.specs.declared.ops.InvokeKind.TheVariants as call
use Rattle.insn_set.specs.declared.form.Insn.{Insn}
use Rattle.insn_set.specs.declared.form.Insn.TheVariants as insn
use Rattle.program_model.specs.BodyRules.{handles_at, is_caught}
use Rattle.program_model.specs.Lookups as look
use Rattle.program_model.specs.MemberRules.{has_flag, receiver_words, takes_words, proto_of}
use Rattle.program_model.specs.MemberRules as rules
use Rattle.program_model.specs.OperandRules.{registers_fit, are_registers}
use Rattle.program_model.specs.ProgramRules.{is_well_formed}
use Rattle.program_model.specs.RegionRules.{may_begin}
use Rattle.program_model.specs.Texts as letter
use Rattle.program_model.specs.Texts.{letter_of, type_text, first_unit}
use Rattle.program_model.specs.declared.body.Body.{Body}
use Rattle.program_model.specs.declared.body.Region.{Region}
use Rattle.program_model.specs.declared.pools.MethodName.{MethodName}
use Rattle.program_model.specs.declared.pools.Proto.{Proto}
use Rattle.program_model.specs.declared.program.Class.{Class}
use Rattle.program_model.specs.declared.program.Method.{Method}
use Rattle.program_model.specs.declared.program.MethodAt.{MethodAt}
use Rattle.program_model.specs.declared.program.Program.{Program}
use Rattle.class_defs.specs.Finding.{search_of, finds_from, by_entry, finds_static}
use Rattle.class_defs.proofs.WellFormed.{Sound, sound}
use Rattle.hierarchy.specs.Shapes.{IsResolved}
use Rattle.hierarchy.specs.declared.build.Hierarchy.{Hierarchy}
use Rattle.facts.specs.declared.facts.Facts.{Facts}
use Rattle.dalvik_defs.specs.Find.{Search, Finds, finds_statically, found_in, defined_method}
use Rattle.dalvik_defs.specs.Flags.{is_static}
use Rattle.dalvik_defs.specs.Names.{Text, text_eq, is_wide, is_void, is_reference, is_class_type}
use Rattle.dalvik_defs.specs.Naming.{type_at, method_at, form_of, region_of, body_of, named, named_class, named_method}
use Rattle.dalvik_defs.specs.Silence.{key_in}
use Rattle.dalvik_defs.specs.Under.{class_named, defines}
use Rattle.dalvik_defs.specs.declared.names.MethodKey.{MethodKey}
use Rattle.dalvik_defs.specs.declared.names.Signature.{Signature}
use Rattle.dalvik_defs.specs.declared.forms.Form.{Form}
use Rattle.dalvik_defs.specs.declared.forms.Form.TheVariants as form
use Rattle.dalvik_defs.specs.declared.program.NamedBody.{NamedBody}
use Rattle.dalvik_defs.specs.declared.program.NamedClass.{NamedClass}
use Rattle.dalvik_defs.specs.declared.program.NamedMethod.{NamedMethod}
use Rattle.pass_defs.specs.Bare.{reads, writes}
use Rattle.pass_defs.specs.Quiet.{takes_result}
use Rattle.pass_defs.specs.Typed.{Table, IsTyping, IsTyped}
use Rattle.pass_defs.specs.Walks.{form_at, IsReached}
use Rattle.pass_defs.specs.Inlined.{callee_found, callee_of, with_body, slot_of, passed_types}
use Rattle.pass_defs.specs.Inlined as by_name
use Rattle.program_laws.specs.Alike.{gets_void}
use Rattle.program_laws.specs.Results.{TakesInPlace}
use Rattle.program_laws.proofs.WellFormed.{well_placed}
use Rattle.program_laws.proofs.Arrays.{text_same}
use Rattle.form_laws.proofs.Operands.{reads_below, writes_below}
use Rattle.name_bridge.specs.Named.{found_at, finds, search_at}
use Rattle.name_bridge.proofs.Flags.{static_flag}
use Rattle.name_bridge.proofs.Found.{type_same, IsThere, found_there_is}
use Rattle.name_bridge.proofs.Resolved.{static_by_number}
use Rattle.run_laws.specs.Regular.{reads_value, IsRegular}
use Rattle.run_laws.proofs.Here.{into_map}
use Rattle.run_laws.proofs.Sorts.{class_alone, not_wide}
use Rattle.removal_bridge.proofs.TypedFormed.{regular_program}
use Rattle.thin_laws.proofs.Rules.{first_begins, caught_at}
use Rattle.removal_bridge.proofs.WalkedForms.{same_reads, same_writes}
use Rattle.inline_law.specs.Accepted.{Suits}
use Rattle.inline_law.specs.Inlining.{Passes, PassesNone, PassesOne, PassesTwo}
use Rattle.inline_law.specs.Sound.{IsSoundCallee}
use Rattle.inline_law.specs.Takes.{Takes, CatchesNone}
use Rattle.inline_law.proofs.Reached.{arguments_alone, suits_all}
use Rattle.splice.specs.declared.callee.Callee.{Callee}
use Rattle.splice.specs.Callees.{taken_by, args_of}
use Rattle.splice.specs.Moves.{parameters_in, parameters_of}
use Rattle.calls_kept.specs.Copied.{IsNamed, IsCopied}
use Rattle.calls_kept.proofs.Chosen.{same_taken}
use Rattle.calls_kept.proofs.Moves.{same_parameters}
use Rattle.calls_kept.specs.Sites.{Calls, Statically, Directly, Holds, HoldsNone, HoldsOne, HoldsTwo, Passed, Plainly, Behind, TakesFrom, result_of, IsSite, IsSoundSite}
use Rattle.calls_kept.proofs.InlinedBodies.{IsCode, is_code, registers_at, targets_at}

contains_at : {A : Type 0} (xs : List A) (n : ℕ) (x : A) → slice_get xs n ≡ Some x → Contains xs x
contains_at [] n x e = none_some x e
contains_at (y ∷ xs) zero x e = subst (Contains (y ∷ xs)) (some_same y x e) (contains_here y xs)
contains_at (y ∷ xs) (suc n) x e = contains_there y xs x (contains_at xs n x e)

-- ---- types by their letters

module _ (p : Program) where
  wide_type : (k : ℕ) → is_wide (type_at p k) ≡ letter.is_wide (letter_of p k)
  unfolding letter_of
  wide_type k = ap is_wide (type_same p k) ∙ by (type_text p k)
    where
      by : (t : Text) → is_wide t ≡ letter.is_wide (first_unit t)
      by [] = refl
      by (u ∷ us) = refl

  void_type : (k : ℕ) → is_void (type_at p k) ≡ letter.is_void (letter_of p k)
  unfolding letter_of
  void_type k = ap is_void (type_same p k) ∙ by (type_text p k)
    where
      by : (t : Text) → is_void t ≡ letter.is_void (first_unit t)
      by [] = refl
      by (u ∷ us) = refl

  -- the type that a method gives
  result_type : (n : ℕ) → (q : MethodName) → slice_get p.methods n ≡ Some q → (t : Proto) → slice_get p.protos q.proto ≡ Some t → ((method_at p n).signature.result ≡ type_at p t.result) × (result_of p n ≡ t.result)
  result_type n q e t f = (
    ap (λ (o : Option MethodName). (elim o as (λ o. MethodKey) [
      | Some m ↦ record {
        class = type_at p m.class;
        name = elim (slice_get p.strings m.name) [ Some t ↦ t | None ↦ [] ];
        signature = elim (slice_get p.protos m.proto) as (λ o. Signature) [
          | Some q ↦ record { parameters = map (type_at p) q.parameters; result = type_at p q.result }
          | None ↦ record { parameters = []; result = [] }
        ];
      }
      | None ↦ record { class = []; name = []; signature = record { parameters = []; result = [] } }
    ]).signature.result) e
        ∙ ap (λ (o : Option Proto). (elim o as (λ o. Signature) [
          | Some q ↦ record { parameters = map (type_at p) q.parameters; result = type_at p q.result }
          | None ↦ record { parameters = []; result = [] }
        ]).result) f,
    ap (λ (o : Option MethodName). elim o as (λ o. ℕ) [ Some q ↦ elim (slice_get p.protos q.proto) [ Some t ↦ t.result | None ↦ 4294967295 ] | None ↦ 4294967295 ]) e
        ∙ ap (λ (o : Option Proto). elim o as (λ o. ℕ) [ Some t ↦ t.result | None ↦ 4294967295 ]) f,
  )

  -- ---- what is passed

  passes_held : (ts rs : List ℕ) → Holds p ts rs → Passes (map (type_at p) ts) rs
  passes_held _ _ HoldsNone = PassesNone
  passes_held _ _ (HoldsOne t r ts rs w h) = PassesOne (type_at p t) (map (type_at p) ts) r rs (wide_type t ∙ w) (passes_held ts rs h)
  passes_held _ _ (HoldsTwo t r ts rs w h) = PassesTwo (type_at p t) (map (type_at p) ts) r rs (wide_type t ∙ w) (passes_held ts rs h)

  words_held : (ts rs : List ℕ) → Holds p ts rs → length rs ≡ sum_by (rules.words_of p) ts
  words_held _ _ HoldsNone = refl
  words_held _ _ (HoldsOne t r ts rs w h) =
      let i = words_held ts rs h in
      let c = sum_by-cons (rules.words_of p) t ts in
      let one : rules.words_of p t ≡ 1 = ap (λ b. if b then 2 else 1) w in
      omega (arith, i, c, one)
  words_held _ _ (HoldsTwo t r ts rs w h) =
      let i = words_held ts rs h in
      let c = sum_by-cons (rules.words_of p) t ts in
      let two : rules.words_of p t ≡ 2 = ap (λ b. if b then 2 else 1) w in
      omega (arith, i, c, two)

module _ (p : Program) (h : Hierarchy) (w : is_well_formed p ≡ true) (resolved : IsResolved p h) (typed : IsTyped (named p)) where
  regular : IsRegular (named p)
  regular = regular_program p w resolved.of.once typed

  module _ (facts : Facts) (at : MethodAt) (c : Class) (m : Method) (b : Body) (is_class : slice_get p.classes at.class ≡ Some c) (is_method : slice_get c.methods at.place ≡ Some m) (has : m.body ≡ Some b)
      (n : ℕ) (y : Callee) (s : IsSite p h facts at m b n y) where
    abbrev pub C : NamedClass
    C = named_class p c

    abbrev pub M : NamedMethod
    M = named_method p y.method.now

    abbrev pub D : NamedBody
    D = body_of p y.body.now

    abbrev pub key : MethodKey
    key = key_in (named_class p c) (named_method p y.method.now)

    -- ---- the places

    pub class_there : slice_get p.classes s.place.class ≡ Some c
    class_there = ap (slice_get p.classes) s.beside ∙ is_class

    method_there : slice_get c.methods s.place.place ≡ Some y.method.now
    method_there = sym (ap (option_and_then (λ (k : Class). slice_get k.methods s.place.place)) class_there) ∙ s.method

    class_in : Contains (named p).classes C
    class_in = into_map (named_class p) p.classes c (contains_at p.classes at.class c is_class)

    method_in : Contains C.methods M
    method_in = into_map (named_method p) c.methods y.method.now (contains_at c.methods s.place.place y.method.now method_there)

    pub body_is : M.body ≡ Some D
    body_is = ap (option_map (body_of p)) s.code

    code : IsCode p y.method.now y.body.now
    code = is_code p w at.class s.place.place c y.method.now y.body.now is_class method_there s.code

    -- ---- what is found

    abbrev pub found_callee : by_name.Callee
    found_callee = record { key = key_in (named_class p c) (named_method p y.method.now); method = named_method p y.method.now; body = body_of p y.body.now; args = s.args }

    found : found_at p s.place ≡ Some (found_in C M)
    found = found_there_is p s.place (record { class = c; is_class = class_there; method = y.method.now; is_method = method_there })

    pub statically : (method : ℕ) → finds_static p method ≡ Some s.place → finds_statically (named p) (method_at p method) ≡ Finds (found_in C M)
    statically method e = static_by_number p (sound p w) method (by (slice_get p.methods method) refl e) ∙ ap (λ o. search_at p (search_of o)) e ∙ ap finds found
      where
        by : (o : Option MethodName) → slice_get p.methods method ≡ o → by_entry (λ q. finds_from p q.name q.proto (look.class_place p q.class)) o ≡ Some s.place → method < length p.methods
        by None i j = none_some s.place j
        by (Some q) i j = got_short p.methods method q i

    of_found : callee_found (named p) s.args (Finds (found_in C M)) ≡ Some found_callee
    of_found = ap (with_body key s.args) (regular.methods C M class_in method_in)
        ∙ ap (option_map (λ (d : NamedBody). record { key = key; method = M; body = d; args = s.args })) body_is

    finds_callee : (static : Bool) (i : Insn) → Calls p s.place s.args static i → callee_of (named p) (Some (form_of p i)) ≡ Some found_callee
    finds_callee _ _ (Statically method e) = ap (callee_found (named p) s.args) (statically method e) ∙ of_found
    finds_callee _ _ (Directly method e) = ap (callee_found (named p) s.args) (statically method e) ∙ of_found

    pub site_found : callee_of (named p) (Some (form_of p s.insn)) ≡ Some found_callee
    site_found = finds_callee (has_flag y.method.now.flags 8) s.insn s.calls

    same_args : (static : Bool) (i : Insn) → Calls p s.place s.args static i → args_of i ≡ s.args
    same_args _ _ (Statically method e) = refl
    same_args _ _ (Directly method e) = refl

    args_are : args_of s.insn ≡ s.args
    args_are = same_args (has_flag y.method.now.flags 8) s.insn s.calls

    -- ---- the class's type

    class_type : is_class_type C.name ≡ true
    class_type = regular.class_types C.name (ap (λ (o : Option NamedClass). elim o as (λ o. Bool) [ Some c ↦ true | None ↦ false ]) (regular.named C class_in))

    reference : is_reference C.name ≡ true
    reference = (class_alone C.name class_type).0

    narrow : is_wide C.name ≡ false
    narrow = not_wide C.name reference

    object_slot : slot_of C.name ≡ slot.Object
    object_slot = ap₂ (λ u v. if u then slot.Wide else if v then slot.Object else slot.Word) narrow reference

    -- ---- what is passed

    pub flag_same : has_flag y.method.now.flags 8 ≡ is_static M.flags
    flag_same = static_flag y.method.now.flags

    passes_by : (static : Bool) (rs : List ℕ) → Passed p (parameters_of p y.method.now.name) static rs → Passes (if static then map (type_at p) (parameters_of p y.method.now.name) else C.name ∷ map (type_at p) (parameters_of p y.method.now.name)) rs
    passes_by _ _ (Plainly rs x) = passes_held p (parameters_of p y.method.now.name) rs x
    passes_by _ _ (Behind r rs x) = PassesOne C.name (map (type_at p) (parameters_of p y.method.now.name)) r rs narrow (passes_held p (parameters_of p y.method.now.name) rs x)

    passes : Passes (passed_types found_callee) s.args
    passes = subst (λ (ts : List Text). Passes ts s.args)
        (ap₂ (λ (t : Bool) (ts : List Text). if t then ts else C.name ∷ ts) flag_same (sym (same_parameters p y.method.now.name)))
        (passes_by (has_flag y.method.now.flags 8) s.args s.passes)

    words_by : (static : Bool) (rs : List ℕ) → Passed p (parameters_of p y.method.now.name) static rs → length rs ≡ (if static then 0 else 1) + sum_by (rules.words_of p) (parameters_of p y.method.now.name)
    words_by _ _ (Plainly rs x) = let e = words_held p (parameters_of p y.method.now.name) rs x in omega (arith, e)
    words_by _ _ (Behind r rs x) = let e = words_held p (parameters_of p y.method.now.name) rs x in omega (arith, e)

    -- the method's proto, which is there since its body takes so many words
    record HasProto : Type 0 where
      entry : MethodName
      is_entry : slice_get p.methods y.method.now.name ≡ Some entry
      proto : Proto
      is_proto : slice_get p.protos entry.proto ≡ Some proto
      words : y.body.now.ins ≡ receiver_words y.method.now.flags + sum_by (rules.words_of p) proto.parameters

    has_proto : HasProto
    has_proto = by (slice_get p.methods y.method.now.name) refl code.takes
      where
        by_proto : (q : MethodName) → slice_get p.methods y.method.now.name ≡ Some q → (o : Option Proto) → slice_get p.protos q.proto ≡ o → takes_words p y.method.now.flags o y.body.now.ins ≡ true → HasProto
        by_proto q e None f t = absurd (true≢false (sym t))
        by_proto q e (Some x) f t = record { entry = q; is_entry = e; proto = x; is_proto = f; words = eqb-true y.body.now.ins (receiver_words y.method.now.flags + sum_by (rules.words_of p) x.parameters) t }

        by : (o : Option MethodName) → slice_get p.methods y.method.now.name ≡ o → takes_words p y.method.now.flags (option_and_then (λ q. slice_get p.protos q.proto) o) y.body.now.ins ≡ true → HasProto
        by None e t = absurd (true≢false (sym t))
        by (Some q) e t = by_proto q e (slice_get p.protos q.proto) refl t

    parameters_are : parameters_of p y.method.now.name ≡ has_proto.proto.parameters
    parameters_are = ap (λ (o : Option MethodName). parameters_in (option_and_then (λ q. slice_get p.protos q.proto) o)) has_proto.is_entry ∙ ap parameters_in has_proto.is_proto

    pub args_long : length s.args ≡ y.body.now.ins
    args_long = words_by (has_flag y.method.now.flags 8) s.args s.passes
        ∙ ap (λ ts. receiver_words y.method.now.flags + sum_by (rules.words_of p) ts) parameters_are ∙ sym has_proto.words

    passed_registers : (static : Bool) (i : Insn) → Calls p s.place s.args static i → registers_fit i b.registers ≡ true → are_registers (args_of i) b.registers ≡ true
    unfolding registers_fit
    passed_registers _ _ (Statically method e) k = k
    passed_registers _ _ (Directly method e) k = k

    -- ---- the copy

    pub copied : IsCopied p b n y
    copied = record {
      insn = s.insn;
      here = s.here;
      callee = found_callee;
      finds = site_found;
      is = record { receiver = object_slot; narrow = narrow; method = refl; body = refl; args = sym args_are };
      registers = let f = s.few in omega (arith, f);
      passes = passed_registers (has_flag y.method.now.flags 8) s.insn s.calls (registers_at p w at.class at.place c m b is_class is_method has n s.insn s.here);
      few = let e : length (args_of s.insn) ≡ length s.args = ap length args_are in let l = args_long in let r = code.room in let f = s.few in omega (arith, e, l, r, f);
      room = let e : length (args_of s.insn) ≡ length s.args = ap length args_are in let l = args_long in let r = code.room in let f = s.few in omega (arith, e, l, r, f);
      short = s.short;
      targets = λ j t x e k. targets_at p w at.class s.place.place c y.method.now y.body.now is_class method_there s.code j t x e k;
    }

    -- ---- a sound callee

    form_there : (j : ℕ) → form_at D j ≡ option_map (form_of p) (slice_get y.body.now.insns j)
    form_there j = get_map (form_of p) y.body.now.insns j

    typing : (t : Table) × IsTyping (named p) C M D t
    typing = typed.bodies C M D class_in method_in body_is

    unguarded : D.regions ≡ []
    unguarded = ap (map (region_of p)) s.unguarded

    begins : takes_result (form_at D 0) ≡ false
    begins = ap takes_result (form_there 0) ∙ by (slice_get y.body.now.insns 0) (first_begins p y.body.now code.body)
      where
        by : (o : Option Insn) → may_begin o ≡ true → takes_result (option_map (form_of p) o) ≡ false
        by None e = refl
        by (Some (insn.MoveResult t to)) e = absurd (true≢false (sym e))
        by (Some i) e = refl

    callee_insn : (j : ℕ) (f : Form) → form_at D j ≡ Some f → (i : Insn) × ((slice_get y.body.now.insns j ≡ Some i) × (form_of p i ≡ f))
    callee_insn j f e = before_map (form_of p) (slice_get y.body.now.insns j) f (sym (form_there j) ∙ e)

    reads_room : (j : ℕ) (f : Form) (r : ℕ) → form_at D j ≡ Some f → reads f r ≡ true → r < D.registers
    reads_room j f r e t = let x = callee_insn j f e in
        reads_below y.body.now.registers r x.0 (registers_at p w at.class s.place.place c y.method.now y.body.now is_class method_there s.code j x.0 x.1.0)
        (sym (same_reads p x.0 r) ∙ ap (λ z. reads z r) x.1.1 ∙ t)

    writes_room : (j : ℕ) (f : Form) (r : ℕ) → form_at D j ≡ Some f → writes f r ≡ true → r < D.registers
    writes_room j f r e t = let x = callee_insn j f e in
        writes_below y.body.now.registers r x.0 (registers_at p w at.class s.place.place c y.method.now y.body.now is_class method_there s.code j x.0 x.1.0)
        (sym (same_writes p x.0 r) ∙ ap (λ z. writes z r) x.1.1 ∙ t)

    voids : (j : ℕ) (f : Form) → form_at D j ≡ Some f → gets_void f ≡ false
    voids j f e = by f (regular.reads C M D f class_in method_in body_is (contains_at D.forms j f e))
      where
        by : (f : Form) → reads_value f ≡ true → gets_void f ≡ false
        by (form.InstanceGet i to on k) r = not_true (is_void k.kind) r
        by (form.StaticGet i to k) r = not_true (is_void k.kind) r
        by f r = refl

    catches_none : CatchesNone D
    catches_none j to e = let x = callee_insn j (form.MoveException to) e in by x.0 (caught_at p y.body.now code.body j x.0 x.1.0) x.1.1
      where
        by : (i : Insn) → is_caught y.body.now.regions j i ≡ true → form_of p i ≡ form.MoveException to → ⊥
        by (insn.MoveException q) k z = true≢false (sym (ap (list_any (handles_at j)) (sym s.unguarded) ∙ k))
        by i k z = cc

    pub sound_callee : IsSoundCallee (key_in (named_class p c) (named_method p m)) found_callee
    sound_callee = record {
      class = text_same C.name;
      unguarded = unguarded;
      ins = code.room;
      passes = passes;
      passes_all = args_long;
      in_place = well_placed p w C M D class_in method_in body_is;
      begins = begins;
      reads_room = reads_room;
      writes_room = writes_room;
      voids = voids;
      arguments = arguments_alone (named p) C M D typing.0 typing.1 unguarded;
    }

    -- ---- what is taken

    takes : Takes M (by_name.taken_by (form_at (body_of p b) (n + 1)))
    takes =
        let r = result_type p y.method.now.name has_proto.entry has_proto.is_entry has_proto.proto has_proto.is_proto in
        record {
          gives = λ t e. ap is_void r.0 ∙ void_type p has_proto.proto.result ∙ ap (λ k. letter.is_void (letter_of p k)) (sym r.1) ∙ s.takes.gives t (sym (same_taken p b (n + 1)) ∙ e);
          wide = λ t e. ap is_wide r.0 ∙ wide_type p has_proto.proto.result ∙ ap (λ k. letter.is_wide (letter_of p k)) (sym r.1) ∙ s.takes.wide t (sym (same_taken p b (n + 1)) ∙ e);
        }

    pub sound_site : IsSoundSite p (key_in (named_class p c) (named_method p m)) b n
    sound_site = record {
      callee = found_callee;
      finds = ap (callee_of (named p)) (get_map (form_of p) b.insns n ∙ ap (option_map (form_of p)) s.here) ∙ site_found;
      sound = sound_callee;
      suits = λ j r. suits_all (named p) C M D typing.0 typing.1 unguarded catches_none (by_name.taken_by (form_at (body_of p b) (n + 1))) takes j r;
    }
