-- The framework's moves in the program in which loose methods are static: what it may enter it may enter there, and
-- nothing else.
use Rattle.std.proofs.Common.{◌≡◌, ℕ, ◌+◌, Bool, true, false, List, [], ◌∷◌, refl, sym, ap, ◌∙◌, subst, arith}
use Rattle.std.proofs.lemmas.Bool.{eq-eqb}
use Rattle.std.specs.Prelude.{◌&&◌, ◌||◌, ◌/◌, ◌%◌, not, map, find, Option, Some, None}
use Rattle.std.specs.Option.{option_map}
use Rattle.lemmas.proofs.Bools.{and_false}
use Rattle.lemmas.proofs.Options.{none_some, some_same}
use Rattle.dalvik_defs.specs.Names.{Text, text_eq, signature_eq, same_name, proto_text, is_common}
use Rattle.dalvik_defs.specs.Flags.{is_static, is_private, is_special, is_virtual}
use Rattle.dalvik_defs.specs.Under.{class_named}
use Rattle.dalvik_defs.specs.Find.{Found, found_in, method_in, is_virtual_method}
use Rattle.dalvik_defs.specs.Face.{Face, declared_in, face_of}
use Rattle.dalvik_defs.specs.Outer.{Outer}
use Rattle.dalvik_defs.specs.State.{World, kind_of}
use Rattle.dalvik_defs.specs.declared.state.Value.{Value}
use Rattle.dalvik_defs.specs.Gives.{is_on, all_fit}
use Rattle.dalvik_defs.specs.Legal.{is_class_initialiser, is_found as is_found_method, is_found_virtual, keeper_above, may_reach, receiver_ok, may_enter_found, may_enter}
use Rattle.dalvik_defs.specs.Silence.{key_in}
use Rattle.dalvik_defs.specs.declared.names.MethodKey.{MethodKey}
use Rattle.dalvik_defs.specs.declared.script.Given.{Given}
use Rattle.dalvik_defs.specs.declared.program.NamedMethod.{NamedMethod}
use Rattle.dalvik_defs.specs.declared.program.NamedClass.{NamedClass}
use Rattle.dalvik_defs.specs.declared.program.NamedProgram.{NamedProgram}
use Rattle.dalvik_defs.specs.declared.tables.Framework.{Framework}
use Rattle.dalvik_defs.proofs.Calm.{text_sound}
use Rattle.pass_defs.specs.Loose.{new_signature, static_method, static_class, staticised}
use Rattle.removal_law.specs.Left.{In, here, there}
use Rattle.removal_law.specs.Reach.{TellsApart}
use Rattle.removal_law.proofs.Lists.{clash, and_left, and_behind, in_map, FoundIn, found_in as found_passes}
use Rattle.removal_law.proofs.Members.{signature_sound}
use Rattle.removal_law.proofs.Declared.{name_same, none_there, and_none}
use Rattle.program_laws.proofs.Founds.{is_found}
use Rattle.static_law.proofs.Bodies.{unrenamed, each_in}
use Rattle.program_laws.specs.Renames.{finding_of, face_with}
use Rattle.static_law.specs.Static.{renamed, IsSound, IsUnentered, made_static}
use Rattle.program_laws.proofs.Renaming.{Barred, DeclaredAlike, Both, Neither}
use Rattle.program_laws.proofs.Remade.{class_same}
use Rattle.static_law.proofs.Methods.{recalled, stays, turns}
use Rattle.static_law.proofs.LookUps.{found_same}
use Rattle.static_law.proofs.Faces.{face_same}

-- ---- flags

-- the bit of static is set
pub made_static_flag : (n : ℕ) → is_static n ≡ false → is_static (n + 8) ≡ true
made_static_flag n e = let h : n / 8 % 2 ≡ 1 → ⊥ = λ i. clash (is_static n) (eq-eqb (n / 8 % 2) 1 i) e in eq-eqb ((n + 8) / 8 % 2) 1 (omega (arith, h))

-- ---- lists

pub record FromMap {A B : Type 0} (g : A → B) (y : B) (xs : List A) : Type 0 where
  pub source : A
  pub is_in : In source xs
  pub image : g source ≡ y

pub from_map : {A B : Type 0} (g : A → B) (xs : List A) (y : B) → In y (map g xs) → FromMap g y xs
from_map g [] y h = elim h [ ]
from_map {A} {B} g (x ∷ xs) y h = by (from_map g xs) y h
  where
    by : ((y : B) → In y (map g xs) → FromMap g y xs) → (y : B) → In y (g x ∷ map g xs) → FromMap g y (x ∷ xs)
    by more y (here zs) = record { source = x; is_in = here xs; image = refl }
    by more y (there z zs i) = let r = more y i in record { source = r.source; is_in = there x xs r.is_in; image = r.image }

-- ---- what the framework may enter

entry_false : (a b c : Bool) → c ≡ false → (a && b && c) ≡ false
entry_false a b c e = ap (λ x. a && b && x) e ∙ and_false (a && b)

-- a method with a receiver that is reached on no object
receiver_barred : (face : Face) (o : Outer) (g : Found) → is_static g.flags ≡ false → ((t : Text) → may_reach face o t g ≡ false) → Barred face o (Some g)
receiver_barred face o g s unreached w w' gs vs = entry_false g.coded (not (is_class_initialiser g)) (may_enter_found face o w w' g gs vs)
    (ap (λ b. elim b as (λ b. Bool) [ true ↦ o.methods g.key && all_fit face o w w' gs vs g.key.signature.parameters | false ↦ all_fit face o w w' gs vs (g.key.class ∷ g.key.signature.parameters) && receiver_ok face o w' g vs ]) s
    ∙ and_none (all_fit face o w w' gs vs (g.key.class ∷ g.key.signature.parameters)) (receiver_ok face o w' g vs) (by vs))
  where
    by : (vs : List Value) → receiver_ok face o w' g vs ≡ false
    by [] = refl
    by (v ∷ vs) = and_none (is_on face w' v g.key.class) (may_reach face o (kind_of w' v) g) (unreached (kind_of w' v))

-- a static one that isn't kept
static_barred : (face : Face) (o : Outer) (g : Found) → is_static g.flags ≡ true → o.methods g.key ≡ false → Barred face o (Some g)
static_barred face o g s free w w' gs vs = entry_false g.coded (not (is_class_initialiser g)) (may_enter_found face o w w' g gs vs)
    (ap (λ b. elim b as (λ b. Bool) [ true ↦ o.methods g.key && all_fit face o w w' gs vs g.key.signature.parameters | false ↦ all_fit face o w w' gs vs (g.key.class ∷ g.key.signature.parameters) && receiver_ok face o w' g vs ]) s
    ∙ ap (λ b. b && all_fit face o w w' gs vs g.key.signature.parameters) free)

-- what isn't virtual is reached where it is kept
not_virtual : (face : Face) (o : Outer) (t : Text) (g : Found) → is_virtual g.flags g.key.name ≡ false → may_reach face o t g ≡ (o.methods g.key || false || false)
not_virtual face o t g e = ap (λ b. o.methods g.key || (b && is_found_method g.key (face.virtually t g.key) && keeper_above face o t g.key.name g.key.signature)
    || (b && not (o.shut g.key) && is_found_method g.key (face.virtually t g.key) && (face.outward t || is_common g.key.name g.key.signature))) e

-- a method that is reached alike is entered alike
entered_alike : (F G : Face) (o : Outer) (g : Found) (w w' : World) (gs : List Given) (vs : List Value) → G ≡ face_with F (finding_of G)
    → (is_virtual g.flags g.key.name ≡ true → (t : Text) → may_reach G o t g ≡ may_reach F o t g) → may_enter (face_with F (finding_of G)) o w w' g gs vs ≡ may_enter F o w w' g gs vs
entered_alike F G o g w w' gs vs whole h = ap (λ b. g.coded && not (is_class_initialiser g) && b) (by (is_static g.flags))
  where
    reached_alike : (t : Text) → may_reach (face_with F (finding_of G)) o t g ≡ may_reach F o t g
    reached_alike t = on (is_virtual g.flags g.key.name) refl
      where
        on : (b : Bool) → is_virtual g.flags g.key.name ≡ b → may_reach (face_with F (finding_of G)) o t g ≡ may_reach F o t g
        on true e = ap (λ x. may_reach x o t g) (sym whole) ∙ h e t
        on false e = not_virtual (face_with F (finding_of G)) o t g e ∙ sym (not_virtual F o t g e)

    receiver_alike : (vs : List Value) → receiver_ok (face_with F (finding_of G)) o w' g vs ≡ receiver_ok F o w' g vs
    receiver_alike [] = refl
    receiver_alike (v ∷ vs) = ap (λ b. is_on F w' v g.key.class && b) (reached_alike (kind_of w' v))

    pick : Bool → Face → Bool
    pick b face = elim b as (λ b. Bool) [ true ↦ o.methods g.key && all_fit face o w w' gs vs g.key.signature.parameters | false ↦ all_fit face o w w' gs vs (g.key.class ∷ g.key.signature.parameters) && receiver_ok face o w' g vs ]

    by : (b : Bool) → pick b (face_with F (finding_of G)) ≡ pick b F
    by true = refl
    by false = ap (λ b. all_fit F o w w' gs vs (g.key.class ∷ g.key.signature.parameters) && b) (receiver_alike vs)

-- ---- what a class declares by a name and a text of a proto

-- it declared a method that isn't loose, and declares it, or none and none but loose ones
pub data Redeclares (p : NamedProgram) (loose : MethodKey → Bool) (c : NamedClass) : Option NamedMethod → Option NamedMethod → Type 0 where
  Remains : (m : NamedMethod) → In m c.methods → loose (key_in c m) ≡ false → Redeclares p loose c (Some m) (Some (recalled p loose m))
  Goes : (a b : Option NamedMethod) → ((m : NamedMethod) → a ≡ Some m → In m c.methods × (loose (key_in c m) ≡ true))
      → ((m : NamedMethod) → b ≡ Some m → (z : NamedMethod) × (In z c.methods × ((loose (key_in c z) ≡ true) × (static_method p loose c z ≡ m)))) → Redeclares p loose c a b

module _ (p : NamedProgram) (loose : MethodKey → Bool) (sound : IsSound p loose) (tells : TellsApart p) where
  -- a method of a class is the one that its own name finds
  pub itself : (t : Text) (c : NamedClass) (m : NamedMethod) → class_named p t ≡ Some c → In m c.methods → method_in c m.name m.signature ≡ Some m
  itself t c m e i =
      let r = is_found (λ y. same_name y.name y.signature m.name m.signature) m c.methods i (name_same m.name m.signature) in
      let z = found_passes (λ y. same_name y.name y.signature m.name m.signature) c.methods r.0 r.1 in
      r.1 ∙ ap Some (tells t c r.0 m e z.is_in i
      (text_sound r.0.name m.name (and_left (text_eq r.0.name m.name) (signature_eq r.0.signature m.signature) z.passes))
      (ap proto_text (signature_sound r.0.signature m.signature (and_behind (text_eq r.0.name m.name) (signature_eq r.0.signature m.signature) z.passes))))

  pub receives : (t : Text) (c : NamedClass) (m : NamedMethod) → class_named p t ≡ Some c → In m c.methods → loose (key_in c m) ≡ true → is_static m.flags ≡ false
  receives t c m e i l = sound.receiver t c m.name m.signature m e (itself t c m e i) l

  -- a loose method is static there
  pub turned_static : (t : Text) (c : NamedClass) (m : NamedMethod) → class_named p t ≡ Some c → In m c.methods → loose (key_in c m) ≡ true → is_static (static_method p loose c m).flags ≡ true
  turned_static t c m e i l = ap (λ y. is_static y.flags) (turns p loose c m l) ∙ made_static_flag m.flags (receives t c m e i l)

  module _ (tells' : TellsApart (staticised p loose)) (t n x : Text) (c : NamedClass) (stands : class_named p t ≡ Some c) where
    abbrev other : NamedClass → NamedClass
    other = static_class p loose

    abbrev wanted : NamedMethod → Bool
    wanted m = text_eq m.name n && text_eq (proto_text m.signature) x

    abbrev change : NamedMethod → NamedMethod
    change = static_method p loose c

    stands_other : class_named (staticised p loose) t ≡ Some (other c)
    stands_other = class_same (made_static p loose) p t ∙ ap (option_map other) stands

    named_alike : (a b : NamedMethod) → wanted a ≡ true → wanted b ≡ true → a.name ≡ b.name
    named_alike a b d e = text_sound a.name n (and_left (text_eq a.name n) (text_eq (proto_text a.signature) x) d) ∙ sym (text_sound b.name n (and_left (text_eq b.name n) (text_eq (proto_text b.signature) x) e))

    proto_alike : (a b : NamedMethod) → wanted a ≡ true → wanted b ≡ true → proto_text a.signature ≡ proto_text b.signature
    proto_alike a b d e = text_sound (proto_text a.signature) x (and_behind (text_eq a.name n) (text_eq (proto_text a.signature) x) d) ∙ sym (text_sound (proto_text b.signature) x (and_behind (text_eq b.name n) (text_eq (proto_text b.signature) x) e))

    abbrev Sources : NamedMethod → Type 0
    Sources m = (z : NamedMethod) × (In z c.methods × ((loose (key_in c z) ≡ true) × (change z ≡ m)))

    -- what is declared there, where nothing that stays was
    only_new : ((z : NamedMethod) → In z c.methods → wanted z ≡ true → loose (key_in c z) ≡ true) → (m : NamedMethod) → find wanted (map change c.methods) ≡ Some m → Sources m
    only_new none m e = by (loose (key_in c z.source)) refl
      where
        y : FoundIn wanted (map change c.methods) m
        y = found_passes wanted (map change c.methods) m e

        z : FromMap change m c.methods
        z = from_map change c.methods m y.is_in

        by : (l : Bool) → loose (key_in c z.source) ≡ l → Sources m
        by true l = (z.source, (z.is_in, (l, z.image)))
        by false l = clash (loose (key_in c z.source)) (none z.source z.is_in (ap wanted (sym (stays p loose c z.source l) ∙ z.image) ∙ y.passes)) l

    pub declared : Redeclares p loose c (find wanted c.methods) (find wanted (map change c.methods))
    declared = by (find wanted c.methods) refl
      where
        -- a method that stays is found again
        remains : (m : NamedMethod) → find wanted c.methods ≡ Some m → loose (key_in c m) ≡ false → Redeclares p loose c (Some m) (find wanted (map change c.methods))
        remains m d l =
            let z = found_passes wanted c.methods m d in
            let stays_there : In (recalled p loose m) (map change c.methods) = subst (λ z. In z (map change c.methods)) (stays p loose c m l) (in_map change m c.methods z.is_in) in
            let r = is_found wanted (recalled p loose m) (map change c.methods) stays_there z.passes in
            let y = found_passes wanted (map change c.methods) r.0 r.1 in
            let again = tells' t (other c) r.0 (recalled p loose m) stands_other y.is_in stays_there (named_alike r.0 (recalled p loose m) y.passes z.passes) (proto_alike r.0 (recalled p loose m) y.passes z.passes) in
            subst (λ b. Redeclares p loose c (Some m) b) (sym (r.1 ∙ ap Some again)) (Remains m z.is_in l)

        by : (a : Option NamedMethod) → find wanted c.methods ≡ a → Redeclares p loose c a (find wanted (map change c.methods))
        by None d = Goes None (find wanted (map change c.methods)) (λ m e. none_some m e)
            (only_new (λ z i e. clash (wanted z) e (none_there wanted c.methods d z i)))
        by (Some m) d = on (loose (key_in c m)) refl
          where
            z : FoundIn wanted c.methods m
            z = found_passes wanted c.methods m d

            on : (l : Bool) → loose (key_in c m) ≡ l → Redeclares p loose c (Some m) (find wanted (map change c.methods))
            on false l = remains m d l
            on true l = Goes (Some m) (find wanted (map change c.methods)) (λ y e. subst (λ y. In y c.methods × (loose (key_in c y) ≡ true)) (some_same m y e) (z.is_in, l))
                (only_new (λ y i e. ap (λ y. loose (key_in c y)) (tells t c y m stands i z.is_in (named_alike y m e z.passes) (proto_alike y m e z.passes)) ∙ l))

  abbrev pub declared_case : Text → Text → Option NamedClass → Option Found
  declared_case n x o = elim o as (λ o. Option Found) [ Some c ↦ option_map (found_in c) (find (λ m. text_eq m.name n && text_eq (proto_text m.signature) x) c.methods) | None ↦ None ]

  -- ---- whether a virtual method is declared

  -- where no loose method is that is virtual and declared so, it is declared there just where it was
  pub virtual_alike : (tells' : TellsApart (staticised p loose)) (t n x : Text)
      → ((c : NamedClass) (m : NamedMethod) → class_named p t ≡ Some c → find (λ m. text_eq m.name n && text_eq (proto_text m.signature) x) c.methods ≡ Some m → is_virtual_method m ≡ true → loose (key_in c m) ≡ false)
      → is_found_virtual (declared_in (staticised p loose) t n x) ≡ is_found_virtual (declared_in p t n x)
  virtual_alike tells' t n x none = ap (λ a. is_found_virtual (declared_case n x a)) (class_same (made_static p loose) p t) ∙ by (class_named p t) refl
    where
      virtual : NamedClass → Option NamedMethod → Bool
      virtual c o = is_found_virtual (option_map (found_in c) o)

      static_not : (s a b : Bool) → s ≡ true → (not s && a && b) ≡ false
      static_not s a b e = ap (λ s. not s && a && b) e

      -- what has gone wasn't virtual, and what has come is static
      gone : (c : NamedClass) (a : Option NamedMethod) → class_named p t ≡ Some c → find (λ m. text_eq m.name n && text_eq (proto_text m.signature) x) c.methods ≡ a → ((m : NamedMethod) → a ≡ Some m → In m c.methods × (loose (key_in c m) ≡ true)) → virtual c a ≡ false
      gone c None e i h = refl
      gone c (Some m) e i h = on (is_virtual_method m) refl
        where
          on : (b : Bool) → is_virtual_method m ≡ b → is_virtual_method m ≡ false
          on false v = v
          on true v = clash (loose (key_in c m)) (h m refl).1 (none c m e i v)

      come : (c : NamedClass) (b : Option NamedMethod) → class_named p t ≡ Some c → ((m : NamedMethod) → b ≡ Some m → (z : NamedMethod) × (In z c.methods × ((loose (key_in c z) ≡ true) × (static_method p loose c z ≡ m)))) → virtual (static_class p loose c) b ≡ false
      come c None e h = refl
      come c (Some m) e h = let z = h m refl in
          static_not (is_static m.flags) (not (is_private m.flags)) (not (is_special m.name)) (ap (λ y. is_static y.flags) (sym z.1.1.1) ∙ turned_static t c z.0 e z.1.0 z.1.1.0)

      at : (c : NamedClass) → class_named p t ≡ Some c → (a b : Option NamedMethod) → find (λ m. text_eq m.name n && text_eq (proto_text m.signature) x) c.methods ≡ a → Redeclares p loose c a b → virtual (static_class p loose c) b ≡ virtual c a
      at c e _ _ i (Remains m j l) = refl
      at c e _ _ i (Goes a b d h) = come c b e h ∙ sym (gone c a e i d)

      by : (o : Option NamedClass) → class_named p t ≡ o → is_found_virtual (declared_case n x (option_map (static_class p loose) o)) ≡ is_found_virtual (declared_case n x o)
      by None e = refl
      by (Some c) e = at c e (find (λ m. text_eq m.name n && text_eq (proto_text m.signature) x) c.methods) (find (λ m. text_eq m.name n && text_eq (proto_text m.signature) x) (map (static_method p loose c) c.methods)) refl (declared tells' t n x c e)

  -- ---- what the framework may enter

  module _ (tells' : TellsApart (staticised p loose)) (o : Outer) (f : Framework) (u : IsUnentered p o loose f) where
    abbrev F : Face
    F = face_of p f

    abbrev G : Face
    G = face_with F (finding_of (face_of (staticised p loose) f))

    module _ (t n x : Text) (c : NamedClass) (stands : class_named p t ≡ Some c) where
      barred : (m : NamedMethod) → In m c.methods → loose (key_in c m) ≡ true → Barred F o (Some (found_in c m))
      barred m i l = receiver_barred F o (found_in c m) (receives t c m stands i l) (λ t. u.unreached t (found_in c m) l)

      barred_new : (m : NamedMethod) → In m c.methods → loose (key_in c m) ≡ true → Barred G o (Some (found_in (static_class p loose c) (static_method p loose c m)))
      barred_new m i l = static_barred G o (found_in (static_class p loose c) (static_method p loose c m)) (turned_static t c m stands i l)
          (ap (λ y. o.methods (key_in c y)) (turns p loose c m l) ∙ u.free_new (key_in c m) l)

      kept : (m : NamedMethod) → In m c.methods → loose (key_in c m) ≡ false → renamed loose (key_in c m) ≡ key_in c m
      kept m i l = unrenamed loose (key_in c m) l (λ j d k e. clash (same_name m.name m.signature j.name (new_signature j))
          (subst (λ y. same_name y.name y.signature j.name (new_signature j) ≡ true) e (name_same j.name (new_signature j)))
          (each_in (λ m. same_name m.name m.signature j.name (new_signature j) ≡ false) m c.methods (sound.fresh j t c k stands) i))

      both : (m : NamedMethod) → In m c.methods → loose (key_in c m) ≡ false → DeclaredAlike (renamed loose) F G o (Some (found_in c m)) (Some (found_in (static_class p loose c) (recalled p loose m)))
      both m i l = subst (λ y. DeclaredAlike (renamed loose) F G o (Some (found_in c m)) (Some y)) (sym (found_same p loose c m))
          (Both (found_in c m) (kept m i l) (λ w w' gs vs. entered_alike F (face_of (staticised p loose) f) o (found_in c m) w w' gs vs (face_same p loose sound f) (λ v s. u.reached s t c m stands i l v)))

      all_barred : (a : Option NamedMethod) → ((m : NamedMethod) → a ≡ Some m → In m c.methods × (loose (key_in c m) ≡ true)) → Barred F o (option_map (found_in c) a)
      all_barred None h = tt
      all_barred (Some m) h = barred m (h m refl).0 (h m refl).1

      all_barred_new : (b : Option NamedMethod) → ((m : NamedMethod) → b ≡ Some m → (z : NamedMethod) × (In z c.methods × ((loose (key_in c z) ≡ true) × (static_method p loose c z ≡ m)))) → Barred G o (option_map (found_in (static_class p loose c)) b)
      all_barred_new None h = tt
      all_barred_new (Some m) h = let z = h m refl in subst (λ y. Barred G o (Some (found_in (static_class p loose c) y))) z.1.1.1 (barred_new z.0 z.1.0 z.1.1.0)

      alike : (a b : Option NamedMethod) → Redeclares p loose c a b → DeclaredAlike (renamed loose) F G o (option_map (found_in c) a) (option_map (found_in (static_class p loose c)) b)
      alike _ _ (Remains m i l) = both m i l
      alike _ _ (Goes a b d h) = Neither (option_map (found_in c) a) (option_map (found_in (static_class p loose c)) b) (all_barred a d) (all_barred_new b h)

    by_class : (t n x : Text) (a : Option NamedClass) → class_named p t ≡ a → DeclaredAlike (renamed loose) F G o (declared_case n x a) (declared_case n x (option_map (static_class p loose) a))
    by_class t n x None e = Neither None None tt tt
    by_class t n x (Some c) e = alike t n x c e _ _ (declared tells' t n x c e)

    -- the framework may enter the same
    pub declared_alike : (t n x : Text) → DeclaredAlike (renamed loose) F G o (F.declared t n x) ((face_of (staticised p loose) f).declared t n x)
    declared_alike t n x = subst (λ a. DeclaredAlike (renamed loose) F G o (declared_in p t n x) (declared_case n x a)) (sym (class_same (made_static p loose) p t)) (by_class t n x (class_named p t) refl)
