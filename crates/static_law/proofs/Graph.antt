-- The class graph of a program in which methods are static is that of the program, and its virtual methods are virtual ones there: so
-- it has no fault.
use Rattle.std.proofs.Common.{◌≡◌, ℕ, Bool, true, false, true≢false, List, [], ◌∷◌, map, Option, Some, None, refl, sym, ap, ◌∙◌, subst, eq-eqb}
use Rattle.std.specs.Prelude.{◌||◌, ◌==◌, nat_eq, not, is_some, slice_get, bit_or, Contains}
use Rattle.std.specs.List.{list_any}
use Rattle.std.specs.Option.{option_map}
use Rattle.std.proofs.lemmas.List.Sorted.{Contains-permutation, IsPermutation-sym}
use Rattle.std.proofs.lemmas.Nat.{and_or_self}
use Rattle.program_model.specs.MemberRules.{is_direct, is_private, is_static, name_of_method}
use Rattle.program_model.specs.Texts.{first_unit, string_text, type_text}
use Rattle.program_model.specs.declared.flags.Flags.{Flags}
use Rattle.program_model.specs.declared.pools.MethodName.{MethodName}
use Rattle.program_model.specs.declared.program.Class.{Class}
use Rattle.program_model.specs.declared.program.Method.{Method}
use Rattle.program_model.specs.declared.program.Program.{Program}
use Rattle.class_defs.specs.ClassGraph.{HasVirtual, IsAbove, IsAncestor, IsSplit, IsSuperclass, IsTwice, StepsTo, is_package_private, package_of}
use Rattle.class_defs.proofs.WellFormed.{MethodFits, class_parts}
use Rattle.dalvik_defs.specs.Naming.{type_at}
use Rattle.hierarchy.specs.Splitting.{NoSplit}
use Rattle.name_bridge.proofs.Found.{text_same as same_text, type_same as same_type}
use Rattle.name_bridge.proofs.Tables.{Sound, method_name}
use Rattle.removal_bridge.proofs.Listed.{Image, image}
use Rattle.static_law.specs.Edited.{EditedClass, IsEdited, IsPlanned, flags_edited, marks_edited, body_edited, method_edited, name_edited}
use Rattle.static_law.proofs.Classes.{contains_at}
use Rattle.static_law.proofs.Programs.{partner_of}
use Rattle.static_law.proofs.Tables.{text_same, type_same}

abbrev is_above_by : ℕ → List ℕ → ℕ → Bool
is_above_by superclass interfaces name = nat_eq superclass name || list_any (λ kind. nat_eq kind name) interfaces

module _ (given target : ℕ → Option ℕ) (p q : Program) (s : Sound p) (edited : IsEdited given target p q) where
  was : (i : ℕ) (d : Class) → slice_get q.classes i ≡ Some d → (c : Class) × ((slice_get p.classes i ≡ Some c) × EditedClass given target c d)
  was i d e = partner_of (EditedClass given target) p.classes q.classes i d edited.classes e

  twice_was : (class : ℕ) → IsTwice q class → IsTwice p class
  twice_was class t =
      let a = was t.earlier t.one t.is_one in
      let b = was class t.other t.is_other in
      record {
        earlier = t.earlier;
        before = t.before;
        one = a.0;
        other = b.0;
        is_one = a.1.0;
        is_other = b.1.0;
        same = sym (ap (λ (x : Class). x.name) a.1.1.rest) ∙ (t.same ∙ ap (λ (x : Class). x.name) b.1.1.rest);
      }

  pub still_once : ((class : ℕ) → IsTwice p class → ⊥) → (class : ℕ) → IsTwice q class → ⊥
  still_once once class t = once class (twice_was class t)

  above_was : (class upper : ℕ) → IsAbove q class upper → IsAbove p class upper
  above_was class upper a =
      let c = was class a.c a.is_class in
      let u = was upper a.u a.is_upper in
      record {
        c = c.0;
        u = u.0;
        is_class = c.1.0;
        is_upper = u.1.0;
        names = sym (ap (λ (x : Class). is_above_by x.superclass x.interfaces a.u.name) c.1.1.rest ∙ ap (λ (x : Class). is_above_by c.0.superclass c.0.interfaces x.name) u.1.1.rest) ∙ a.names;
      }

  steps_were : (class : ℕ) (mids : List ℕ) (upper : ℕ) → StepsTo (IsAbove q) class mids upper → StepsTo (IsAbove p) class mids upper
  steps_were class [] upper h = above_was class upper h
  steps_were class (m ∷ mids) upper h = (above_was class m h.0, steps_were m mids upper h.1)

  pub still_grounded : ((class : ℕ) → IsAncestor p class class → ⊥) → (class : ℕ) → IsAncestor q class class → ⊥
  still_grounded grounded class a = grounded class (record { mids = a.mids; steps = steps_were class a.mids class a.steps })

  -- ---- split overrides

  super_was : (class upper : ℕ) → IsSuperclass q class upper → IsSuperclass p class upper
  super_was class upper a =
      let c = was class a.c a.is_class in
      let u = was upper a.u a.is_upper in
      record {
        c = c.0;
        u = u.0;
        is_class = c.1.0;
        is_upper = u.1.0;
        names = sym (ap (λ (x : Class). x.superclass) c.1.1.rest) ∙ (a.names ∙ ap (λ (x : Class). x.name) u.1.1.rest);
      }

  supers_were : (class : ℕ) (mids : List ℕ) (upper : ℕ) → StepsTo (IsSuperclass q) class mids upper → StepsTo (IsSuperclass p) class mids upper
  supers_were class [] upper h = super_was class upper h
  supers_were class (m ∷ mids) upper h = (super_was class m h.0, supers_were m mids upper h.1)

  static_set : (f : Flags) → is_static (flags_edited given target f) ≡ true
  static_set f = eq-eqb _ 8 (and_or_self 8 f.0)

  direct_set : (m : Method) → is_static m.flags ≡ true → is_direct q m ≡ true
  unfolding is_direct
  direct_set m e = ap (λ b. (b || is_private m.flags) || first_unit (name_of_method q (slice_get q.methods m.name)) == 60) e

  text_there : (m : Method) (c : Class) → MethodFits p c.name m → is_some (given m.name) ≡ false → name_of_method q (slice_get q.methods m.name) ≡ name_of_method p (slice_get p.methods m.name)
  text_there m c fits g =
      ap (name_of_method q) (edited.methods m.name ∙ (ap (option_map (name_edited given target m.name)) fits.is ∙ ap Some (unnamed (given m.name) refl)))
      ∙ (sym (same_text q fits.entry.name) ∙ (text_same given target p q s edited fits.entry.name (method_name p s m.name fits.entry fits.is) ∙ (same_text p fits.entry.name
      ∙ sym (ap (name_of_method p) fits.is))))
    where
      unnamed : (o : Option ℕ) → given m.name ≡ o → name_edited given target m.name fits.entry ≡ fits.entry
      unnamed None e = ap (λ (o : Option ℕ). elim o as (λ o. MethodName) [ Some k ↦ record fits.entry { proto = k } | None ↦ fits.entry ]) e
      unnamed (Some k) e = absurd (true≢false (sym (ap is_some e) ∙ g))

  direct_same : (m x : Method) (c : Class) → MethodFits p c.name m → is_some (given m.name) ≡ false → x.name ≡ m.name → x.flags ≡ m.flags → is_direct q x ≡ is_direct p m
  unfolding is_direct
  direct_same m x c fits g n f =
      ap (λ (h : Flags). (is_static h || is_private h) || first_unit (name_of_method q (slice_get q.methods x.name)) == 60) f
      ∙ (ap (λ (k : ℕ). (is_static m.flags || is_private m.flags) || first_unit (name_of_method q (slice_get q.methods k)) == 60) n
      ∙ ap (λ (t : List ℕ). (is_static m.flags || is_private m.flags) || first_unit t == 60) (text_there m c fits g))

  -- the virtual method that a virtual method was
  record WasVirtual (class : ℕ) (d : Class) (x : Method) (name : MethodName) : Type 0 where
    owner : Class
    method : Method
    has : HasVirtual p class owner method name
    kind : d.name ≡ owner.name
    number : x.name ≡ method.name
    flags : x.flags ≡ method.flags

  module _ (class : ℕ) (c d : Class) (is : slice_get p.classes class ≡ Some c) (now : EditedClass given target c d) where
    abbrev edited_by : Method → Bool → Method
    edited_by m b = record (elim b as (λ b. Method) [ true ↦ record m { flags = flags_edited given target m.flags; parameter_marks = marks_edited given target m.parameter_marks } | false ↦ m ]) { body = option_map (body_edited given target) m.body }

    named_there : (m : Method) → MethodFits p c.name m → is_some (given m.name) ≡ false → (name : MethodName) → slice_get q.methods m.name ≡ Some name → slice_get p.methods m.name ≡ Some name
    named_there m fits g name e = by (given m.name) refl
      where
        by : (o : Option ℕ) → given m.name ≡ o → slice_get p.methods m.name ≡ Some name
        by (Some k) i = absurd (true≢false (sym (ap is_some i) ∙ g))
        by None i = fits.is ∙ (sym (ap (λ (o : Option ℕ). Some (elim o as (λ o. MethodName) [ Some k ↦ record fits.entry { proto = k } | None ↦ fits.entry ])) i)
            ∙ (sym (edited.methods m.name ∙ ap (option_map (name_edited given target m.name)) fits.is) ∙ e))

    from_old : (place : ℕ) (m : Method) → slice_get c.methods place ≡ Some m → (x : Method) → method_edited given target m ≡ x → (name : MethodName) → is_direct q x ≡ false → slice_get q.methods x.name ≡ Some name → WasVirtual class d x name
    from_old place m there x same name virtual entry = by (is_some (given m.name)) refl
      where
        fits : MethodFits p c.name m
        fits = (class_parts p s class c is).methods place m there

        by : (b : Bool) → is_some (given m.name) ≡ b → WasVirtual class d x name
        by true g = absurd (true≢false (sym (direct_set (edited_by m true) (static_set m.flags)) ∙ (ap (is_direct q) (sym (ap (edited_by m) g) ∙ same) ∙ virtual)))
        by false g =
            let is_x : edited_by m false ≡ x = sym (ap (edited_by m) g) ∙ same in
            let number : x.name ≡ m.name = sym (ap (λ (y : Method). y.name) is_x) in
            let flags : x.flags ≡ m.flags = sym (ap (λ (y : Method). y.flags) is_x) in
            record {
              owner = c;
              method = m;
              has = record {
                is_class = is;
                place = place;
                is_method = there;
                is_virtual = sym (direct_same m x c fits g number flags) ∙ virtual;
                named = named_there m fits g name (sym (ap (slice_get q.methods) number) ∙ entry);
              };
              kind = ap (λ (y : Class). y.name) now.rest;
              number = number;
              flags = flags;
            }

    virtual_in : (place : ℕ) (x : Method) → slice_get d.methods place ≡ Some x → (name : MethodName) → is_direct q x ≡ false → slice_get q.methods x.name ≡ Some name → WasVirtual class d x name
    virtual_in place x there name virtual entry =
        let back = Contains-permutation d.methods (map (method_edited given target) c.methods) x (IsPermutation-sym (map (method_edited given target) c.methods) d.methods now.methods) (contains_at d.methods place x there) in
        let m = image (method_edited given target) c.methods x back in
        from_old m.place m.entry m.is_entry x m.is name virtual entry

  virtual_was : (class : ℕ) (d : Class) (x : Method) (name : MethodName) → HasVirtual q class d x name → WasVirtual class d x name
  virtual_was class d x name v = let c = was class d v.is_class in virtual_in class c.0 d c.1.0 c.1.1 v.place x v.is_method name v.is_virtual v.named

  package_same : (d c : Class) → d.name ≡ c.name → package_of (type_text q d.name) ≡ package_of (type_text p c.name)
  package_same d c e = ap package_of (sym (same_type q d.name) ∙ (type_same given target p q s edited d.name ∙ (ap (λ (k : ℕ). type_at p k) e ∙ same_type p c.name)))

  split_was : (class method : ℕ) → IsSplit q class method → IsSplit p class method
  split_was class method h =
      let low : WasVirtual class h.c h.m h.name = virtual_was class h.c h.m h.name h.has in
      let high : WasVirtual h.upper h.u h.above h.above_name = virtual_was h.upper h.u h.above h.above_name h.above_has in
      record {
        c = low.owner;
        m = low.method;
        name = h.name;
        has = low.has;
        number = h.number ∙ low.number;
        upper = h.upper;
        under = record { mids = h.under.mids; steps = supers_were class h.under.mids h.upper h.under.steps };
        u = high.owner;
        above = high.method;
        above_name = h.above_name;
        above_has = high.has;
        hidden = ap is_package_private (sym high.flags) ∙ h.hidden;
        same_name = h.same_name;
        same_proto = h.same_proto;
        apart = λ e. h.apart (package_same h.c low.owner low.kind ∙ (e ∙ sym (package_same h.u high.owner high.kind)));
      }

  pub still_whole : NoSplit p → NoSplit q
  still_whole whole class method h = whole class method (split_was class method h)
