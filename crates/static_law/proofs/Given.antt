-- What stands where methods may be static: names of the table are no new ones, and the map of names is sound.
use Rattle.std.proofs.Common.{◌≡◌, Bool, true, false, List, [], ◌∷◌, refl, sym, ap, ◌∙◌, subst}
use Rattle.std.specs.Prelude.{Option, Some, None, is_some}
use Rattle.lemmas.proofs.Bools.{untrue}
use Rattle.lemmas.proofs.Options.{some_same}
use Rattle.dalvik_defs.specs.Names.{Text, text_eq, same_name, signature_eq}
use Rattle.dalvik_defs.specs.Flags.{is_static, is_interface}
use Rattle.dalvik_defs.specs.Under.{class_named}
use Rattle.dalvik_defs.specs.Find.{method_in, interface_named}
use Rattle.dalvik_defs.specs.Outer.{Outer}
use Rattle.dalvik_defs.specs.Silence.{key_in}
use Rattle.dalvik_defs.specs.declared.names.Signature.{Signature}
use Rattle.dalvik_defs.specs.declared.names.MethodKey.{MethodKey}
use Rattle.dalvik_defs.specs.declared.program.NamedMethod.{NamedMethod}
use Rattle.dalvik_defs.specs.declared.program.NamedClass.{NamedClass}
use Rattle.dalvik_defs.specs.declared.program.NamedProgram.{NamedProgram}
use Rattle.dalvik_defs.proofs.Calm.{text_sound}
use Rattle.pass_defs.specs.Loose.{new_signature, new_key}
use Rattle.removal_law.specs.Agree.{Each}
use Rattle.removal_law.specs.Left.{In, here, there}
use Rattle.removal_law.proofs.Declared.{name_same}
use Rattle.removal_law.proofs.Lists.{clash, and_left, and_behind, none_in, found_in as found_passes}
use Rattle.removal_law.proofs.Members.{signature_sound}
use Rattle.removal_law.proofs.Trees.{class_name}
use Rattle.static_law.specs.Static.{IsOld, key, IsSound, MayAllBeStatic, AreInTables}

-- names that aren't the same the one way aren't the other way
turned : (a n : Text) (s g : Signature) → same_name a s n g ≡ false → same_name n g a s ≡ false
turned a n s g e = untrue (same_name n g a s) (λ i. clash (same_name a s n g)
    (subst (λ x. same_name a s x g ≡ true) (sym (text_sound n a (and_left (text_eq n a) (signature_eq g s) i)))
    (subst (λ x. same_name a s a x ≡ true) (sym (signature_sound g s (and_behind (text_eq n a) (signature_eq g s) i))) (name_same a s))) e)

each_of : (P : NamedMethod → Type 0) (ms : List NamedMethod) → ((m : NamedMethod) → In m ms → P m) → Each P ms
each_of P [] h = tt
each_of P (m ∷ ms) h = (h m (here ms), each_of P ms (λ x i. h x (there m ms i)))

module _ (p : NamedProgram) (o : Outer) (methods : List MethodKey) (loose : MethodKey → Bool) (given : MayAllBeStatic p o methods loose) (in_tables : AreInTables p o methods) where
  -- a loose method's definition
  pub defined_in : (k : MethodKey) (l : loose k ≡ true) → method_in (given k l).class k.name k.signature ≡ Some (given k l).method
  defined_in k l = let g = given k l in ap (λ x. elim x as (λ o. Option NamedMethod) [ Some c ↦ method_in c k.name k.signature | None ↦ None ]) (sym g.named) ∙ g.defined

  -- a name of the tables is no new one
  pub in_old : (k : MethodKey) → In k methods → IsOld loose k.name k.signature
  in_old k i j l = turned k.name j.name k.signature (new_signature j) (none_in (λ t. same_name t.name t.signature j.name (new_signature j)) methods ((given j l).new) k i)

  name_here : (k : MethodKey) (l : loose k ≡ true) → (given k l).class.name ≡ k.class
  name_here k l = class_name p k.class (given k l).class (given k l).named

  -- the class that stands under a loose method's class
  same_class : (t : Text) (c : NamedClass) (n : Text) (g : Signature) (l : loose (key c.name n g) ≡ true) → class_named p t ≡ Some c → c ≡ (given (key c.name n g) l).class
  same_class t c n g l e = some_same c (given (key c.name n g) l).class (sym (ap (class_named p) (class_name p t c e) ∙ e) ∙ (given (key c.name n g) l).named)

  in_key : (k : MethodKey) (l : loose k ≡ true) → In k methods
  in_key k l =
      let z = found_passes (λ m. same_name m.name m.signature k.name k.signature) (given k l).class.methods (given k l).method (defined_in k l) in
      subst (λ x. In x methods)
      (ap (λ x. record (key_in (given k l).class (given k l).method) { class = x }) (name_here k l)
      ∙ ap (λ x. key k.class x (given k l).method.signature) (text_sound (given k l).method.name k.name (and_left (text_eq (given k l).method.name k.name) (signature_eq (given k l).method.signature k.signature) z.passes))
      ∙ ap (λ x. key k.class k.name x) (signature_sound (given k l).method.signature k.signature (and_behind (text_eq (given k l).method.name k.name) (signature_eq (given k l).method.signature k.signature) z.passes)))
      (in_tables.defined k.class (given k l).class (given k l).method (given k l).named z.is_in)

  interface_of : (t : Text) (c : NamedClass) → interface_named p t ≡ Some c → (class_named p t ≡ Some c) × (is_interface c.flags ≡ true)
  interface_of t c e = by (class_named p t) refl e
    where
      on : (d : NamedClass) (b : Bool) → class_named p t ≡ Some d → is_interface d.flags ≡ b → elim b as (λ b. Option NamedClass) [ true ↦ Some d | false ↦ None ] ≡ Some c → (class_named p t ≡ Some c) × (is_interface c.flags ≡ true)
      on d true i j a = subst (λ x. (class_named p t ≡ Some x) × (is_interface x.flags ≡ true)) (some_same d c a) (i, j)
      on d false i j a = clash false (ap is_some a) refl

      by : (x : Option NamedClass) → class_named p t ≡ x → elim x as (λ x. Option NamedClass) [ Some d ↦ elim (is_interface d.flags) as (λ b. Option NamedClass) [ true ↦ Some d | false ↦ None ] | None ↦ None ] ≡ Some c → (class_named p t ≡ Some c) × (is_interface c.flags ≡ true)
      by None i a = clash false (ap is_some a) refl
      by (Some d) i a = on d (is_interface d.flags) i refl a

  pub sound : IsSound p loose
  sound = record {
    inner = λ t c e n g. no_inner t c e n g (loose (key c.name n g)) refl;
    receiver = λ t c n g m e i l. subst (λ x. is_static x.flags ≡ false)
        (some_same (given (key c.name n g) l).method m (sym (defined_in (key c.name n g) l) ∙ sym (ap (λ x. method_in x n g) (same_class t c n g l e)) ∙ i))
        ((given (key c.name n g) l).receiver);
    fresh = λ k t c l e. each_of (λ m. same_name m.name m.signature k.name (new_signature k) ≡ false) c.methods
        (λ m i. none_in (λ t. same_name t.name t.signature k.name (new_signature k)) methods ((given k l).new) (key_in c m) (in_tables.defined t c m e i));
    apart = λ k l. in_old k (in_key k l);
  }
    where
      no_inner : (t : Text) (c : NamedClass) → interface_named p t ≡ Some c → (n : Text) (g : Signature) (b : Bool) → loose (key c.name n g) ≡ b → b ≡ false
      no_inner t c e n g false l = refl
      no_inner t c e n g true l = let r = interface_of t c e in
          clash (is_interface c.flags) r.1 (ap (λ x. is_interface x.flags) (same_class t c n g l r.0) ∙ (given (key c.name n g) l).in_class)

  pub not_kept : (k : MethodKey) → loose k ≡ true → o.methods (new_key k) ≡ false
  not_kept k l = by (o.methods (new_key k)) refl
    where
      by : (b : Bool) → o.methods (new_key k) ≡ b → b ≡ false
      by false e = refl
      by true e = clash (same_name k.name (new_signature k) k.name (new_signature k)) (name_same k.name (new_signature k))
          (none_in (λ t. same_name t.name t.signature k.name (new_signature k)) methods ((given k l).new) (new_key k) (in_tables.kept (new_key k) k.class k.signature.parameters e refl))
