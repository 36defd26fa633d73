-- A propagated program is typed.
use Rattle.std.proofs.Common.{◌≡◌, ℕ, ◌<◌, Bool, true, false, List, [], Option, Some, None, Contains, refl, sym, ap, ◌∙◌, subst}
use Rattle.std.specs.Prelude.{slice_get, option_and_then}
use Rattle.std.specs.Option.{option_map}
use Rattle.program_model.specs.ProgramRules.{is_well_formed}
use Rattle.program_model.specs.Lookups.{method_at}
use Rattle.program_model.specs.declared.body.Body.{Body}
use Rattle.program_model.specs.declared.program.Method.{Method}
use Rattle.program_model.specs.declared.program.MethodAt.{MethodAt}
use Rattle.program_model.specs.declared.program.Class.{Class}
use Rattle.program_model.specs.declared.pools.MethodName.{MethodName}
use Rattle.program_model.specs.declared.program.Program.{Program}
use Rattle.insn_set.specs.declared.form.Insn.{Insn}
use Rattle.insn_set.specs.declared.form.Insn.TheVariants as insn
use Rattle.hierarchy.specs.Shapes.{IsResolved}
use Rattle.hierarchy.specs.declared.build.Hierarchy.{Hierarchy}
use Rattle.dalvik_defs.specs.Names.{is_wide}
use Rattle.dalvik_defs.specs.Naming.{text_at, type_at, signature_at, form_of, body_of, named_method, named_class, named}
use Rattle.dalvik_defs.specs.Silence.{key_in}
use Rattle.dalvik_defs.specs.declared.forms.Form.{Form}
use Rattle.dalvik_defs.specs.declared.names.MethodKey.{MethodKey}
use Rattle.dalvik_defs.specs.declared.program.NamedBody.{NamedBody}
use Rattle.dalvik_defs.specs.declared.program.NamedMethod.{NamedMethod}
use Rattle.dalvik_defs.specs.declared.program.NamedClass.{NamedClass}
use Rattle.pass_defs.specs.Typed.{IsTyped}
use Rattle.pass_defs.specs.Walks.{form_at}
use Rattle.program_laws.specs.Bodies.{Change}
use Rattle.form_laws.specs.Kinds.{HasNarrowClass}
use Rattle.form_laws.specs.Solid.{HasRoom}
use Rattle.form_laws.proofs.WellFormed.{well_formed_solid}
use Rattle.run_laws.specs.Regular.{IsRegular}
use Rattle.removal_bridge.proofs.TypedFormed.{regular_program}
use Rattle.removal_bridge.proofs.Listed.{Image, image, some_same, none_same}
use Rattle.bodies_kept.proofs.Taking.{class_narrow}
use Rattle.program_laws.specs.Others.{OtherBodies}
use Rattle.compact.specs.Narrow.{has_narrow_classes}
use Rattle.compact.specs.Renamed.{HasRegisters}
use Rattle.bodies_kept.proofs.CompactPrograms.{registers_of}
use Rattle.bodies_kept.specs.Changing.{change_to}
use Rattle.bodies_kept.proofs.Changing.{keeps_code, is_changed, related}
use Rattle.bodies_kept.proofs.Unique.{unique_named}
use Rattle.form_laws.specs.Reread.{AreReread}
use Rattle.form_laws.specs.TypedCopies.{IsTypedReread, AllTypedReread}
use Rattle.form_laws.proofs.TypedRereading.{reread_typed}
use Rattle.copy_prop.specs.Propagated.{IsPropagatedProgram}
use Rattle.bodies_kept.specs.Rereads.{Rereads}
use Rattle.bodies_kept.proofs.Forms.{IsOf, insn_for}
use Rattle.bodies_kept.proofs.CopyPrograms.{others}
use Rattle.verify.specs.declared.typed.Verifier.{Verifier}
use Rattle.verify.specs.Methods.{HasTypings, Types, TypesFor, TypesAll}
use Rattle.type_bridge.specs.Views.{method_table}
use Rattle.type_bridge.proofs.Bodies.{got_short}
use Rattle.type_bridge.proofs.Least.{least_method}
use Rattle.type_bridge.proofs.Programs.{index_at, index_map, map_long, typed_program}
use Rattle.bodies_kept.proofs.Alike.{named_narrow, have_kinds}

-- ---- calls

abbrev key_for : Program → Option MethodName → MethodKey
key_for p o = elim o [
  | Some m ↦ record { class = type_at p m.class; name = text_at p m.name; signature = signature_at p m.proto }
  | None ↦ record { class = []; name = []; signature = record { parameters = []; result = [] } }
]

module _ (p : Program) (narrow : has_narrow_classes p ≡ true) where
  narrow_for : (o : Option MethodName) → ((m : MethodName) → o ≡ Some m → is_wide (type_at p m.class) ≡ false) → is_wide (key_for p o).class ≡ false
  narrow_for None h = refl
  narrow_for (Some m) h = h m refl

  narrow_insn : (i : Insn) → HasNarrowClass (form_of p i)
  narrow_insn (insn.Invoke kind method args) = narrow_for (slice_get p.methods method) (named_narrow p narrow method)
  narrow_insn insn.Nop = tt
  narrow_insn i = tt

  calls : (b : Body) (n : ℕ) (f : Form) → form_at (body_of p b) n ≡ Some f → HasNarrowClass f
  calls b n f h = let i : IsOf p b n f = insn_for p b n f h in subst HasNarrowClass i.same (narrow_insn i.insn)

-- ---- bodies

record BodyOf (p : Program) (o : Option Body) (b : NamedBody) : Type 0 where
  body : Body
  has : o ≡ Some body
  is : body_of p body ≡ b

body_image : (p : Program) (o : Option Body) (b : NamedBody) → option_map (body_of p) o ≡ Some b → BodyOf p o b
body_image p None b e = none_same b e
body_image p (Some x) b e = record { body = x; has = refl; is = some_same (body_of p x) b e }

module _ (p : Program) (h : Hierarchy) (w : is_well_formed p ≡ true) (r : IsResolved p h) (narrow : has_narrow_classes p ≡ true) (types : TypesAll p h) where
  abbrev v : Verifier
  v = types.verifier

  module _ (c : Class) (k : ℕ) (m : Method) (j : ℕ) (b : Body) (is_class : slice_get p.classes k ≡ Some c) (is_method : slice_get c.methods j ≡ Some m) (has : m.body ≡ Some b) where
    class_here : slice_get v.program.now.classes k ≡ Some c
    class_here = ap (λ q. slice_get q.classes k) types.is.program ∙ is_class

    abbrev at : MethodAt
    at = record { class = k; place = j }

    method_here : method_at v.program.now at ≡ Some m
    method_here = ap (option_and_then (λ c. slice_get c.methods j)) class_here ∙ is_method

    pub typings : HasTypings v c k m
    typings = subst (HasTypings v c k) (index_at c.methods j m m is_method) (types.types k c (got_short p.classes k c is_class) class_here j m (got_short c.methods j m is_method))

    table_for : TypesFor p h at typings.table
    table_for = record {
      verifier = v;
      is = types.is;
      types = λ d n e g.
          subst (λ d. Types v d k n typings.table) (some_same c d (sym class_here ∙ e))
          (subst (λ n. Types v c k n typings.table) (some_same m n (sym method_here ∙ g)) typings.types);
    }

    reread_here : HasRegisters b → is_wide (type_at p c.name) ≡ false → (d : NamedBody) → AreReread (body_of p b) d → IsTypedReread (named p) (named_class p c) (named_method p m) (body_of p b) d
    reread_here room own d reads = record {
      reads = reads;
      table = method_table p c typings.table;
      typing = (least_method p h w r at typings.table table_for c m b is_class (ap (option_and_then (λ c. slice_get c.methods j)) is_class ∙ is_method) has).typing;
      kinds = λ n f a x y. have_kinds p h w r narrow v types.is c k m j b is_class is_method has room own typings.table (typings.types b has) n f a y (reads.forms n f x).1.1.copies (reads.forms n f x).1.1.stale;
      calls = calls p narrow b;
    }

  -- ---- by name

  regular : IsRegular (named p)
  regular = regular_program p w r.of.once (typed_program p h w r types)

  narrow_name : (c : NamedClass) → Contains (named p).classes c → is_wide c.name ≡ false
  narrow_name c i = class_narrow c.name (regular.class_types c.name (ap (λ o. elim o as (λ o. Bool) [ Some d ↦ true | None ↦ false ]) (regular.named c i)))

  pub own_narrow : (c : Class) (k : ℕ) → slice_get p.classes k ≡ Some c → is_wide (type_at p c.name) ≡ false
  own_narrow c k e = narrow_name (named_class p c) (k, subst (λ n. k < n) (sym (map_long (named_class p) p.classes)) (got_short p.classes k c e), index_map (named_class p) p.classes k c (named_class p c) e)

  reread_body : (c : NamedClass) (m : NamedMethod) (b d : NamedBody) → Contains (named p).classes c → Contains c.methods m → m.body ≡ Some b → AreReread b d → IsTypedReread (named p) c m b d
  reread_body c m b d i j e reads =
      let x : Image (named_class p) p.classes c = image (named_class p) p.classes c i in
      let y : Image (named_method p) x.entry.methods m = image (named_method p) x.entry.methods m (subst (λ c. Contains c.methods m) (sym x.is) j) in
      let z : BodyOf p y.entry.body b = body_image p y.entry.body b (ap (λ m. m.body) y.is ∙ e) in
      subst (λ c. IsTypedReread (named p) c m b d) x.is
      (subst (λ m. IsTypedReread (named p) (named_class p x.entry) m b d) y.is
      (subst (λ b. IsTypedReread (named p) (named_class p x.entry) (named_method p y.entry) b d) z.is
      (reread_here x.entry x.place y.entry y.place z.body x.is_entry y.is_entry z.has
      (registers_of p z.body (subst HasRoom (sym z.is) (well_formed_solid p w c m b i j e).room))
      (own_narrow x.entry x.place x.is_entry)
      d (subst (λ b. AreReread b d) (sym z.is) reads))))

  -- ---- programs

  module _ (admitted : List Bool) (q : Program) (propagated : IsPropagatedProgram admitted p q) where
    abbrev new : Change
    new = change_to (named q)

    rewritten : OtherBodies Rereads (named p) (named q)
    rewritten = others admitted p q w r.of.once propagated

    all : AllTypedReread new (named p)
    all = record { code = keeps_code (named q); bodies = bodies }
      where
        bodies : (c : NamedClass) (m : NamedMethod) (b d : NamedBody) → Contains (named p).classes c → Contains c.methods m → m.body ≡ Some b → (new c m).body ≡ Some d → IsTypedReread (named p) c m b d
        bodies c m b d i j e f =
            let x : Rereads (key_in c m) m.body (new c m).body = related Rereads (named p) (named q) (unique_named p w r.of.once) rewritten c m i j in
            reread_body c m b d i j e (subst (λ y. Rereads (key_in c m) (Some b) y) f (subst (λ y. Rereads (key_in c m) y (new c m).body) e x))

    pub propagated_typed : IsTyped (named q)
    propagated_typed = subst IsTyped (is_changed Rereads (named p) (named q) (unique_named p w r.of.once) rewritten) (reread_typed (named p) new all)
