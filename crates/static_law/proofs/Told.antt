-- Where methods are told apart, they are so in the program in which loose ones are static: new names are no old ones, and texts of
-- protos tell these apart, since types are descriptors.
use Rattle.std.proofs.Common.{◌≡◌, Bool, true, false, List, [], ◌∷◌, Some, ◌⊎◌, inl, inr, refl, sym, ap, ◌∙◌, subst}
use Rattle.std.specs.Prelude.{is_ok}
use Rattle.lemmas.proofs.Options.{before_map}
use Rattle.dex_base.specs.Descriptor.{descriptor_of}
use Rattle.dalvik_defs.specs.Names.{Text, same_name}
use Rattle.dalvik_defs.specs.Under.{class_named}
use Rattle.dalvik_defs.specs.Silence.{key_in}
use Rattle.dalvik_defs.specs.declared.names.Signature.{Signature}
use Rattle.dalvik_defs.specs.declared.names.MethodKey.{MethodKey}
use Rattle.dalvik_defs.specs.declared.program.NamedMethod.{NamedMethod}
use Rattle.dalvik_defs.specs.declared.program.NamedClass.{NamedClass}
use Rattle.dalvik_defs.specs.declared.program.NamedProgram.{NamedProgram}
use Rattle.pass_defs.specs.Loose.{new_signature, static_method, static_class, staticised}
use Rattle.removal_law.specs.Left.{In}
use Rattle.removal_law.specs.Reach.{IsDescribed, DefinesOnce, TellsApart}
use Rattle.removal_law.proofs.Lists.{clash}
use Rattle.removal_law.proofs.Declared.{name_same}
use Rattle.removal_law.proofs.Finds.{in_cons}
use Rattle.removal_law.proofs.Protos.{told_apart}
use Rattle.removal_law.proofs.Trees.{class_name, defined}
use Rattle.static_law.specs.Static.{IsSound, NamesDescribed, made_static}
use Rattle.static_law.proofs.Bodies.{each_in}
use Rattle.static_law.proofs.Declared.{from_map}
use Rattle.static_law.proofs.Methods.{stays, turns}
use Rattle.program_laws.proofs.Remade.{class_same}

abbrev tail_of : List Text → List Text
tail_of [] = []
tail_of (t ∷ ts) = ts

module _ (p : NamedProgram) (loose : MethodKey → Bool) where
  abbrev q : NamedProgram
  q = staticised p loose

  abbrev change : NamedClass → NamedMethod → NamedMethod
  change c m = static_method p loose c m

  -- the class that a class was
  pub class_before : (t : Text) (d : NamedClass) → class_named q t ≡ Some d → (c : NamedClass) × ((class_named p t ≡ Some c) × (static_class p loose c ≡ d))
  class_before t d e = before_map (static_class p loose) (class_named p t) d (sym (class_same (made_static p loose) p t) ∙ e)

  name_kept : (c : NamedClass) (m : NamedMethod) → (change c m).name ≡ m.name
  name_kept c m = by (loose (key_in c m)) refl
    where
      by : (b : Bool) → loose (key_in c m) ≡ b → (change c m).name ≡ m.name
      by true e = ap (λ x. x.name) (turns p loose c m e)
      by false e = ap (λ x. x.name) (stays p loose c m e)

  stays_signed : (c : NamedClass) (m : NamedMethod) → loose (key_in c m) ≡ false → (change c m).signature ≡ m.signature
  stays_signed c m e = ap (λ x. x.signature) (stays p loose c m e)

  turns_signed : (c : NamedClass) (m : NamedMethod) → loose (key_in c m) ≡ true → (change c m).signature ≡ new_signature (key_in c m)
  turns_signed c m e = ap (λ x. x.signature) (turns p loose c m e)

  -- ---- parameters are descriptors

  module _ (described : IsDescribed p) (names : NamesDescribed p) where
    described_in : (t : Text) (c : NamedClass) (m : NamedMethod) (u : Text) → class_named p t ≡ Some c → In m c.methods → In u (change c m).signature.parameters → is_ok (descriptor_of u) ≡ true
    described_in t c m u e i j = by (loose (key_in c m)) refl
      where
        at_head : (u ≡ c.name) ⊎ In u m.signature.parameters → is_ok (descriptor_of u) ≡ true
        at_head (inl h) = ap (λ x. is_ok (descriptor_of x)) (h ∙ class_name p t c e) ∙ names t (defined p t c e)
        at_head (inr k) = described t c m u e i k

        by : (b : Bool) → loose (key_in c m) ≡ b → is_ok (descriptor_of u) ≡ true
        by true l = at_head (in_cons u c.name m.signature.parameters (subst (λ s. In u s.parameters) (turns_signed c m l) j))
        by false l = described t c m u e i (subst (λ s. In u s.parameters) (stays_signed c m l) j)

    pub static_described : IsDescribed q
    static_described t d n u e i j =
        let c = class_before t d e in
        let z = from_map (change c.0) c.0.methods n (subst (λ x. In n x.methods) (sym c.1.1) i) in
        described_in t c.0 z.source u c.1.0 z.is_in (subst (λ x. In u x.signature.parameters) (sym z.image) j)

  -- ---- no class defines two methods of one name

  module _ (sound : IsSound p loose) (once : DefinesOnce p) where
    -- the new name of a method is no other one's
    not_new : (t : Text) (c : NamedClass) (m x : NamedMethod) {A : Type 0} → class_named p t ≡ Some c → In x c.methods → loose (key_in c m) ≡ true → x.name ≡ m.name → x.signature ≡ new_signature (key_in c m) → A
    not_new t c m x e j l n s = clash (same_name x.name x.signature m.name (new_signature (key_in c m)))
        (subst (λ y. same_name y x.signature m.name (new_signature (key_in c m)) ≡ true) (sym n)
        (subst (λ y. same_name m.name y m.name (new_signature (key_in c m)) ≡ true) (sym s) (name_same m.name (new_signature (key_in c m)))))
        (each_in (λ y. same_name y.name y.signature m.name (new_signature (key_in c m)) ≡ false) x c.methods (sound.fresh (key_in c m) t c l e) j)

    same_source : (t : Text) (c : NamedClass) (m x : NamedMethod) → class_named p t ≡ Some c → In m c.methods → In x c.methods → m.name ≡ x.name → (change c m).signature ≡ (change c x).signature → m ≡ x
    same_source t c m x e i j n s = by (loose (key_in c m)) (loose (key_in c x)) refl refl
      where
        by : (a b : Bool) → loose (key_in c m) ≡ a → loose (key_in c x) ≡ b → m ≡ x
        by false false k l = once t c m x e i j n (sym (stays_signed c m k) ∙ s ∙ stays_signed c x l)
        by true true k l = once t c m x e i j n (ap {A = Signature} {B = Signature} (λ y. record y { parameters = tail_of y.parameters }) (sym (turns_signed c m k) ∙ s ∙ turns_signed c x l))
        by true false k l = not_new t c m x e j k (sym n) (sym (stays_signed c x l) ∙ sym s ∙ turns_signed c m k)
        by false true k l = not_new t c x m e i l n (sym (stays_signed c m k) ∙ s ∙ turns_signed c x l)

    static_once : DefinesOnce q
    static_once t d m' x' e i j n s =
        let c = class_before t d e in
        let m = from_map (change c.0) c.0.methods m' (subst (λ y. In m' y.methods) (sym c.1.1) i) in
        let x = from_map (change c.0) c.0.methods x' (subst (λ y. In x' y.methods) (sym c.1.1) j) in
        sym m.image
        ∙ ap (change c.0) (same_source t c.0 m.source x.source c.1.0 m.is_in x.is_in
        (sym (name_kept c.0 m.source) ∙ ap (λ y. y.name) m.image ∙ n ∙ ap (λ y. y.name) (sym x.image) ∙ name_kept c.0 x.source)
        (ap (λ y. y.signature) m.image ∙ s ∙ ap (λ y. y.signature) (sym x.image)))
        ∙ x.image

    pub static_told : IsDescribed p → NamesDescribed p → TellsApart q
    static_told described names = told_apart q (static_described described names) static_once
