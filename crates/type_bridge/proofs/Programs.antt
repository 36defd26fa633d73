-- A program whose methods have typings by numbers is typed by names.
use Rattle.std.proofs.Common.{◌≡◌, ℕ, zero, suc, ◌<◌, true, List, [], ◌∷◌, map, length, Option, Some, None, refl, sym, ap, ◌∙◌, subst}
use Rattle.std.specs.Prelude.{slice_get, slice_index_or, Contains}
use Rattle.std.specs.Option.{option_map}
use Rattle.class_defs.proofs.Positions.{entry_at}
use Rattle.class_defs.proofs.WellFormed.{class_parts}
use Rattle.hierarchy.specs.Shapes.{IsOf, IsResolved}
use Rattle.hierarchy.specs.declared.build.Hierarchy.{Hierarchy}
use Rattle.program_model.specs.ProgramRules.{is_well_formed}
use Rattle.program_model.specs.declared.body.Body.{Body}
use Rattle.program_model.specs.declared.program.Class.{Class}
use Rattle.program_model.specs.declared.program.Method.{Method}
use Rattle.program_model.specs.declared.program.Program.{Program}
use Rattle.dalvik_defs.specs.Naming.{body_of, named_class, named_method, named}
use Rattle.dalvik_defs.specs.declared.program.NamedBody.{NamedBody}
use Rattle.dalvik_defs.specs.declared.program.NamedClass.{NamedClass}
use Rattle.dalvik_defs.specs.declared.program.NamedMethod.{NamedMethod}
use Rattle.pass_defs.specs.Typed as typed
use Rattle.verify.specs.declared.setting.Setting.{Setting}
use Rattle.verify.specs.declared.typed.Verifier.{Verifier}
use Rattle.verify.specs.Entry.{begun}
use Rattle.verify.specs.Methods.{constructs, receiver_of, IsSettingOf, HasTyping, HasTypings, AllBelow, IsFor, TypesAll}
use Rattle.verify.specs.Names.{parameters_of, result_of}
use Rattle.verify.specs.Supers.{Finds}
use Rattle.verify.specs.Typings.{Table, IsTyping}
use Rattle.type_bridge.proofs.Told.{Told, told}
use Rattle.type_bridge.proofs.Members.{MethodIs, method_is}
use Rattle.type_bridge.proofs.Grounds.{IsSet}
use Rattle.type_bridge.proofs.Bodies.{IsCode, code, got_short}
use Rattle.type_bridge.proofs.Judged.{table, typing_named}

pub index_at : {X : Type 0} (xs : List X) (i : ℕ) (x d : X) → slice_get xs i ≡ Some x → slice_index_or xs i d ≡ x
index_at [] i x d e = cc
index_at (y ∷ ys) zero x d e = let s : y ≡ x = cc in s
index_at (y ∷ ys) (suc i) x d e = index_at ys i x d e

pub index_map : {X Y : Type 0} (f : X → Y) (xs : List X) (i : ℕ) (x : X) (d : Y) → slice_get xs i ≡ Some x → slice_index_or (map f xs) i d ≡ f x
index_map f [] i x d e = cc
index_map f (y ∷ ys) zero x d e = let s : y ≡ x = cc in ap f s
index_map f (y ∷ ys) (suc i) x d e = index_map f ys i x d e

pub map_long : {A B : Type 0} (f : A → B) (xs : List A) → length (map f xs) ≡ length xs
map_long f [] = refl
map_long f (x ∷ xs) = ap suc (map_long f xs)

-- an element of a list of images is one of an entry
record Image {A B : Type 0} (f : A → B) (xs : List A) (y : B) : Type 0 where
  place : ℕ
  entry : A
  is_entry : slice_get xs place ≡ Some entry
  is : f entry ≡ y

image : {A B : Type 0} (f : A → B) (xs : List A) (y : B) → Contains (map f xs) y → Image f xs y
image f xs y i =
    let e = entry_at xs i.0 (subst (λ n. i.0 < n) (map_long f xs) i.1) in
    record { place = i.0; entry = e.0; is_entry = e.1; is = sym (index_map f xs i.0 e.0 y e.1) ∙ i.2 }

record BodyOf (p : Program) (o : Option Body) (b : NamedBody) : Type 0 where
  body : Body
  has : o ≡ Some body
  is : body_of p body ≡ b

body_image : (p : Program) (o : Option Body) (b : NamedBody) → option_map (body_of p) o ≡ Some b → BodyOf p o b
body_image p None b e = absurd (cc)
body_image p (Some x) b e = record { body = x; has = refl; is = (let s : body_of p x ≡ b = cc in s) }

-- the typing of a body by names
abbrev pub Named : Program → Class → Method → Body → Type 0
Named p c m b = (t : typed.Table) × typed.IsTyping (named p) (named_class p c) (named_method p m) (body_of p b) t

module _ (p : Program) (h : Hierarchy) (w : is_well_formed p ≡ true) (r : IsResolved p h) (v : Verifier) (f : IsFor p h v) where
  module _ (c : Class) (k : ℕ) (m : Method) (j : ℕ) (b : Body) (is_class : slice_get p.classes k ≡ Some c) (is_method : slice_get c.methods j ≡ Some m) (has : m.body ≡ Some b) where
    all : Told p v.tables
    all = told p h v w r.of f

    -- what the code of the method is judged by
    module _ (s : Setting) (is : IsSettingOf v c k m s) where
      pub program : s.program.now ≡ p
      program = is.program ∙ f.program

      told_here : Told s.program.now s.tables.now
      told_here = subst (λ q. Told q s.tables.now) (sym program) (subst (Told p) (sym is.tables) all)

      class_here : slice_get s.program.now.classes s.class ≡ Some c
      class_here = ap (λ q. slice_get q.classes s.class) program ∙ ap (slice_get p.classes) is.class ∙ is_class

      name_here : MethodIs s.program.now s.tables.now told_here m.name
      name_here =
          let fits = (class_parts s.program.now told_here.sound s.class c class_here).methods j m is_method in
          method_is s.program.now s.tables.now told_here m.name (got_short s.program.now.methods m.name fits.entry fits.is)

      pub ground : IsSet s c m
      ground = record {
        told = told_here;
        resolved = subst (λ q. IsResolved q s.hierarchy.now) (sym program) (subst (IsResolved p) (sym (is.hierarchy ∙ f.hierarchy)) r);
        class = class_here;
        kind = is.kind;
        superclass = is.superclass;
        result = is.result ∙ ap (λ q. result_of q m.name) (sym is.program);
        begins = is.begins ∙ ap (λ t. constructs t m) (sym is.tables);
        name = name_here;
      }

      pub body : IsCode s.program.now m b
      body = subst (λ q. IsCode q m b) (sym program) (code p w all.sound k c j m b is_class is_method has)

      of : IsOf v.program.now v.hierarchy.now
      of = subst (λ q. IsOf q v.hierarchy.now) (sym f.program) (subst (IsOf p) (sym f.hierarchy) r.of)

      pub found : (IsOf v.program.now v.hierarchy.now → Finds v.program.now k b.insns s.found.now) → Finds s.program.now s.class b.insns s.found.now
      found finds = subst (λ q. Finds q s.class b.insns s.found.now) (sym is.program) (subst (λ k. Finds v.program.now k b.insns s.found.now) (sym is.class) (finds of))

      pub entry_same : begun s b (receiver_of c k m (constructs v.tables m)) (parameters_of v.program.now m.name) ≡ begun s b (receiver_of c s.class m (constructs s.tables.now m)) (parameters_of s.program.now m.name)
      entry_same =
          ap (λ k. begun s b (receiver_of c k m (constructs v.tables m)) (parameters_of v.program.now m.name)) (sym is.class)
          ∙ ap (λ t. begun s b (receiver_of c s.class m (constructs t m)) (parameters_of v.program.now m.name)) (sym is.tables)
          ∙ ap (λ q. begun s b (receiver_of c s.class m (constructs s.tables.now m)) (parameters_of q m.name)) (sym is.program)

    by_setting : (s : Setting) → IsSettingOf v c k m s → (IsOf v.program.now v.hierarchy.now → Finds v.program.now k b.insns s.found.now) → (x : Table)
        → IsTyping s b (begun s b (receiver_of c k m (constructs v.tables m)) (parameters_of v.program.now m.name)) x → Named p c m b
    by_setting s is finds x typing = subst (λ q. Named q c m b) (program s is)
        (table s c m (ground s is) b (body s is) (found s is finds) x, typing_named s c m (ground s is) b (body s is) (found s is finds) x (subst (λ k. IsTyping s b k x) (entry_same s is) typing))

    by_typing : (x : Table) → HasTyping v c k m b x → Named p c m b
    by_typing x t = by_setting t.setting t.is t.finds x t.least.typing

    by_typings : HasTypings v c k m → Named p c m b
    by_typings t = by_typing t.table (t.types b has)

  method_typed : AllBelow v (length p.classes) → (c : Class) (k : ℕ) (m : Method) (j : ℕ) (b : Body) → slice_get p.classes k ≡ Some c → slice_get c.methods j ≡ Some m → m.body ≡ Some b → Named p c m b
  method_typed t c k m j b e g i = by_typings c k m j b e g i (subst (HasTypings v c k) (index_at c.methods j m m g) (t k c (got_short p.classes k c e) (ap (λ q. slice_get q.classes k) f.program ∙ e) j m (got_short c.methods j m g)))

pub typed_program : (p : Program) (h : Hierarchy) → is_well_formed p ≡ true → IsResolved p h → TypesAll p h → typed.IsTyped (named p)
typed_program p h w r t = record { bodies = each }
  where
    by_body : (c : Class) (k : ℕ) (m : Method) (j : ℕ) (b : NamedBody) → slice_get p.classes k ≡ Some c → slice_get c.methods j ≡ Some m → (named_method p m).body ≡ Some b → (t : typed.Table) × typed.IsTyping (named p) (named_class p c) (named_method p m) b t
    by_body c k m j b e g i =
        let x = body_image p m.body b i in
        subst (λ b. (t : typed.Table) × typed.IsTyping (named p) (named_class p c) (named_method p m) b t) x.is (method_typed p h w r t.verifier t.is t.types c k m j x.body e g x.has)

    by_method : (c : Class) (k : ℕ) (m : NamedMethod) (b : NamedBody) → slice_get p.classes k ≡ Some c → Contains (named_class p c).methods m → m.body ≡ Some b → (t : typed.Table) × typed.IsTyping (named p) (named_class p c) m b t
    by_method c k m b e i g =
        let x = image (named_method p) c.methods m i in
        subst (λ m. (t : typed.Table) × typed.IsTyping (named p) (named_class p c) m b t) x.is (by_body c k x.entry x.place b e x.is_entry (ap (λ m. m.body) x.is ∙ g))

    each : (c : NamedClass) (m : NamedMethod) (b : NamedBody) → Contains (named p).classes c → Contains c.methods m → m.body ≡ Some b → (t : typed.Table) × typed.IsTyping (named p) c m b t
    each c m b i j g =
        let x = image (named_class p) p.classes c i in
        subst (λ c. (t : typed.Table) × typed.IsTyping (named p) c m b t) x.is (by_method x.entry x.place m b x.is_entry (subst (λ c. Contains c.methods m) (sym x.is) j) g)
