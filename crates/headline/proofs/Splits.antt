-- Classes that are left of a program's split no override.
use Rattle.std.proofs.Common.{◌≡◌, ◌∙◌, ℕ, List, [], ◌∷◌, map, refl, sym, ap, subst}
use Rattle.std.specs.Prelude.{◌||◌, ◌==◌, slice_get}
use Rattle.program_model.specs.declared.flags.Flags.{Flags}
use Rattle.program_model.specs.declared.pools.MethodName.{MethodName}
use Rattle.program_model.specs.declared.program.Class.{Class}
use Rattle.program_model.specs.declared.program.Method.{Method}
use Rattle.program_model.specs.declared.program.Program.{Program}
use Rattle.program_model.specs.MemberRules.{is_static, is_private, name_of_method, is_direct}
use Rattle.program_model.specs.Texts.{first_unit, type_text}
use Rattle.class_defs.specs.ClassGraph.{IsSuperclass, StepsTo, HasVirtual, IsSplit, is_package_private, package_of}
use Rattle.hierarchy.specs.Splitting.{NoSplit}
use Rattle.headline.proofs.Parts.{Part, HadMethod, Stood, place, stood}

direct_same : (p : Program) (ds : List Class) (m n : Method) → m.name ≡ n.name → m.flags ≡ n.flags → is_direct (record p { classes = ds }) m ≡ is_direct p n
unfolding is_direct
direct_same p ds m n e f =
    ap (λ (g : Flags). (is_static g || is_private g) || first_unit (name_of_method p (slice_get p.methods m.name)) == 60) f
    ∙ ap (λ (k : ℕ). (is_static n.flags || is_private n.flags) || first_unit (name_of_method p (slice_get p.methods k)) == 60) e

module _ (p : Program) (ds : List Class) (r : Part ds p.classes) where
  abbrev left : Program
  left = record p { classes = ds }

  abbrev was : ℕ → ℕ
  was n = place ds p.classes r n

  super_was : (class upper : ℕ) → IsSuperclass left class upper → IsSuperclass p (was class) (was upper)
  super_was class upper a =
      let c : Stood p.classes (was class) a.c = stood ds p.classes r class a.c a.is_class in
      let u : Stood p.classes (was upper) a.u = stood ds p.classes r upper a.u a.is_upper in
      record { c = c.class; u = u.class; is_class = c.there; is_upper = u.there; names = sym c.head.superclass ∙ a.names ∙ u.head.name }

  steps_were : (class : ℕ) (mids : List ℕ) (upper : ℕ) → StepsTo (IsSuperclass left) class mids upper → StepsTo (IsSuperclass p) (was class) (map was mids) (was upper)
  steps_were class [] upper s = super_was class upper s
  steps_were class (m ∷ mids) upper s = (super_was class m s.0, steps_were m mids upper s.1)

  -- the virtual method that a virtual method was
  record WasVirtual (class : ℕ) (c : Class) (m : Method) (name : MethodName) : Type 0 where
    owner : Class
    method : Method
    has : HasVirtual p (was class) owner method name
    kind : c.name ≡ owner.name
    number : m.name ≡ method.name
    flags : m.flags ≡ method.flags

  virtual_was : (class : ℕ) (c : Class) (m : Method) (name : MethodName) → HasVirtual left class c m name → WasVirtual class c m name
  virtual_was class c m name v =
      let s : Stood p.classes (was class) c = stood ds p.classes r class c v.is_class in
      let had : HadMethod s.class m = s.head.methods v.place m v.is_method in
      record {
        owner = s.class;
        method = had.method;
        has = record {
          is_class = s.there;
          place = had.place;
          is_method = had.there;
          is_virtual = sym (direct_same p ds m had.method had.name had.flags) ∙ v.is_virtual;
          named = ap (λ (k : ℕ). slice_get p.methods k) (sym had.name) ∙ v.named;
        };
        kind = s.head.name;
        number = had.name;
        flags = had.flags;
      }

  text_same : (k : ℕ) → type_text left k ≡ type_text p k
  unfolding type_text
  text_same k = refl

  package_same : (d c : Class) → d.name ≡ c.name → package_of (type_text left d.name) ≡ package_of (type_text p c.name)
  package_same d c e = ap package_of (text_same d.name) ∙ ap (λ (k : ℕ). package_of (type_text p k)) e

  split_was : (class method : ℕ) → IsSplit left class method → IsSplit p (was class) method
  split_was class method s =
      let low : WasVirtual class s.c s.m s.name = virtual_was class s.c s.m s.name s.has in
      let high : WasVirtual s.upper s.u s.above s.above_name = virtual_was s.upper s.u s.above s.above_name s.above_has in
      record {
        c = low.owner;
        m = low.method;
        name = s.name;
        has = low.has;
        number = s.number ∙ low.number;
        upper = was s.upper;
        under = record { mids = map was s.under.mids; steps = steps_were class s.under.mids s.upper s.under.steps };
        u = high.owner;
        above = high.method;
        above_name = s.above_name;
        above_has = high.has;
        hidden = ap is_package_private (sym high.flags) ∙ s.hidden;
        same_name = s.same_name;
        same_proto = s.same_proto;
        apart = λ e. s.apart (package_same s.c low.owner low.kind ∙ e ∙ sym (package_same s.u high.owner high.kind));
      }

  still_whole : NoSplit p → NoSplit left
  still_whole whole class method s = whole (was class) method (split_was class method s)

pub whole_left : (p q : Program) → q ≡ record p { classes = q.classes } → Part q.classes p.classes → NoSplit p → NoSplit q
whole_left p q same r whole = subst NoSplit (sym same) (still_whole p q.classes r whole)
