-- A table of shut methods holds what it says of the program in which methods are static.
use Rattle.std.proofs.Common.{◌≡◌, ℕ, zero, suc, Bool, true, false, true≢false, List, [], ◌∷◌, map, Option, Some, None, refl, sym, ap, ◌∙◌, subst}
use std.Path.{fun_ext}
use Rattle.std.specs.Prelude.{◌&&◌, ◌||◌, not, is_some}
use Rattle.std.specs.List.{list_any, list_all}
use Rattle.std.specs.Option.{option_map}
use Rattle.lemmas.proofs.Bools.{untrue}
use Rattle.lemmas.proofs.Options.{before_map, mapped_some, some_same}
use Rattle.dalvik_defs.specs.Find.{Found, Search, Nothing, Clash, Finds, finds_at, found_in as found_of, is_037, is_virtual_method, method_in}
use Rattle.dalvik_defs.specs.Flags.{is_abstract, is_interface}
use Rattle.dalvik_defs.specs.Names.{Text, is_common, method_eq, same_name, text_eq}
use Rattle.dalvik_defs.specs.Outer.{Outer}
use Rattle.dalvik_defs.specs.Shut.{called_outside, finds_it, is_found_as, is_other, key_of}
use Rattle.dalvik_defs.specs.Silence.{key_in}
use Rattle.dalvik_defs.specs.Under.{class_named, defines, is_outward, is_own_under, own_above}
use Rattle.dalvik_defs.specs.declared.names.MethodKey.{MethodKey}
use Rattle.dalvik_defs.specs.declared.names.Signature.{Signature}
use Rattle.dalvik_defs.specs.declared.program.NamedBody.{NamedBody}
use Rattle.dalvik_defs.specs.declared.program.NamedClass.{NamedClass}
use Rattle.dalvik_defs.specs.declared.program.NamedMethod.{NamedMethod}
use Rattle.dalvik_defs.specs.declared.program.NamedProgram.{NamedProgram}
use Rattle.dalvik_defs.proofs.Calm.{text_sound}
use Rattle.pass_defs.specs.Live.{everything, KeepsAbove, is_concrete}
use Rattle.pass_defs.specs.Loose.{classes_under, has_rival, has_virtual, new_key, new_signature, static_body, static_class, static_method, staticised}
use Rattle.removal_law.specs.Left.{In}
use Rattle.removal_law.specs.Reach.{IsRegular, NamesOnce, ShutsHold, TellsApart, ends, makes_new, may_be_made}
use Rattle.removal_law.proofs.Climbs.{answer_climbs, climb_under}
use Rattle.removal_law.proofs.Declared.{method_same, method_sound, name_same}
use Rattle.removal_law.proofs.Finds.{into_filter}
use Rattle.removal_law.proofs.Lists.{and_left, and_behind, clash, contained, none_in}
use Rattle.removal_law.proofs.Outward.{any_here}
use Rattle.removal_law.proofs.Searches.{at_in}
use Rattle.removal_law.proofs.Trees.{class_in}
use Rattle.removal_law.proofs.Virtuals.{IsMethodOf, answer}
use Rattle.program_laws.specs.Shutting.{ShutsAlike, with_shut}
use Rattle.program_laws.specs.Remade.{AnswersAlike, Remethod, SameMethods, class_remade, remade}
use Rattle.program_laws.proofs.Order.{at_same, members_alike}
use Rattle.program_laws.proofs.Remade.{at_class, class_same, outward_same, under_same}
use Rattle.static_law.specs.Static.{AreInTables, IsApart, IsOld, IsSound, MayAllBeStatic, key, made_static}
use Rattle.static_law.proofs.Declared.{itself}
use Rattle.static_law.proofs.Given.{defined_in, in_old, sound as sound_names}
use Rattle.static_law.proofs.LookUps.{virtually_left}
use Rattle.static_law.proofs.Methods.{recalled, stays}
use Rattle.static_law.specs.Shut.{WasShut, Stayed, Moved}
use Rattle.static_law.proofs.Left.{ClassWas, MethodWas, class_was, method_was, static_named, virtual_stays}
use Rattle.static_law.proofs.Said.{defines_left, makes_before, outside_before, outside_named}

above : (p : NamedProgram) → KeepsAbove p everything
above p = record { above = λ t c e s u i d. refl; initialisers = λ t k s e. refl; defaults = λ t c m v e s i j k b. refl }

module _ (p : NamedProgram) (o : Outer) (methods : List MethodKey) (loose : MethodKey → Bool) (given : MayAllBeStatic p o methods loose) (in_tables : AreInTables p o methods)
    (upright : IsRegular p) (names : NamesOnce p) (tells : TellsApart p) (tells_static : TellsApart (staticised p loose)) (new : Remethod) (same : SameMethods new (staticised p loose)) where
  abbrev static : NamedProgram
  static = staticised p loose

  abbrev left : NamedProgram
  left = remade new static

  sound : IsSound p loose
  sound = sound_names p o methods loose given in_tables

  -- ---- the class graph is the same

  own_left : own_above left ≡ own_above p
  own_left = fun_ext (λ t. at_class new static (λ c. c.superclass ∷ c.interfaces) (λ c. c.superclass ∷ c.interfaces) [] (λ c. refl) t
      ∙ at_class (made_static p loose) p (λ c. c.superclass ∷ c.interfaces) (λ c. c.superclass ∷ c.interfaces) [] (λ c. refl) t)

  ends_left : (n : ℕ) → ends left n ≡ ends p n
  ends_left zero = fun_ext (λ t. ap (λ (f : Text → Bool). not (f t)) (defines_left p loose names new same))
  ends_left (suc n) = fun_ext (λ t. ap (λ (f : Text → Bool). list_all f (own_above left t)) (ends_left n) ∙ ap (λ (f : Text → List Text). list_all (ends p n) (f t)) own_left)

  upright_left : IsRegular left
  upright_left = record {
    names = λ t d. upright.names t (sym (ap (λ (f : Text → Bool). f t) (defines_left p loose names new same)) ∙ d);
    grounded = λ t. let g = upright.grounded t in (g.0, ap (λ (f : Text → Bool). f t) (ends_left g.0) ∙ g.1);
  }

  under_left : is_own_under left ≡ is_own_under p
  under_left = under_same new static ∙ under_same (made_static p loose) p

  outward_left : is_outward left ≡ is_outward p
  outward_left = outward_same new static ∙ outward_same (made_static p loose) p

  left_named : (d : NamedClass) → In d left.classes → class_named left d.name ≡ Some d
  left_named d i = let w = class_was p loose names new same d i in
      ap (λ (x : NamedClass). class_named left x.name) (sym w.is)
      ∙ (class_same new static w.class.name ∙ (ap (option_map (class_remade new)) (static_named p loose names new same w.class w.is_in) ∙ ap Some w.is))

  -- ---- a virtual method that is left

  record Was (k : MethodKey) : Type 0 where
    pub class : NamedClass
    pub method : NamedMethod
    pub class_in : In class p.classes
    pub method_in : In method class.methods
    pub key : key_in class method ≡ k
    pub stays : loose (key_in class method) ≡ false
    pub virtual : is_virtual_method method ≡ true

  was_in : (d : NamedClass) (w : ClassWas p loose names new same d) (x : NamedMethod) (m : MethodWas p loose names new same w.class x) → is_virtual_method x ≡ true → Was (key_in d x)
  was_in d w x m v =
      let l = virtual_stays p loose names new same sound tells w.class m.method w.is_in m.is_in (subst (λ y. is_virtual_method y ≡ true) (sym m.is) v) in
      let recall : recalled p loose m.method ≡ x = sym (stays p loose w.class m.method l) ∙ m.is in
      record {
        class = w.class;
        method = m.method;
        class_in = w.is_in;
        method_in = m.is_in;
        key = ap (key_in w.class) recall ∙ ap (λ (c : NamedClass). key_in c x) w.is;
        stays = l;
        virtual = ap is_virtual_method recall ∙ v;
      }

  -- what a class finds there on an object
  found_was : (t : Text) (k : MethodKey) (f : Found) → finds_at left t k ≡ Finds f → Was f.key
  found_was t k f e =
      let m = answer left everything (above left) upright_left k.name k.signature t f (at_in left everything (above left) upright_left t k f e) in
      let i = class_in left m.class.name m.class m.named in
      let w = class_was p loose names new same m.class i in
      subst Was (ap (λ (g : Found). g.key) m.is) (was_in m.class w m.method (method_was p loose names new same m.class w m.method m.stands) m.virtual)

  record FindsIt (k : MethodKey) (d : NamedClass) : Type 0 where
    pub found : Found
    pub finds : finds_at left d.name k ≡ Finds found
    pub is : found.key ≡ k

  finds_left : (k : MethodKey) (d : NamedClass) → finds_it left k d ≡ true → FindsIt k d
  finds_left k d e = by (finds_at left d.name k) refl e
    where
      by : (s : Search) → finds_at left d.name k ≡ s → is_found_as k s ≡ true → FindsIt k d
      by Nothing i h = absurd (true≢false (sym h))
      by Clash i h = absurd (true≢false (sym h))
      by (Finds f) i h = record { found = f; finds = i; is = method_sound f.key k h }

  -- ---- a loose method that is found in place of one that stays would have it for a rival

  apart : (k : MethodKey) (c : NamedClass) (m : NamedMethod) → loose k ≡ true → class_named p k.class ≡ Some c → In m c.methods → key_in c m ≡ k → is_virtual_method m ≡ true → IsApart p k
  apart k c m l e i d v = (given k l).apart (subst (λ x. is_virtual_method x ≡ true) (sym method_same) v)
    where
      method_same : (given k l).method ≡ m
      method_same = some_same (given k l).method m
          (sym (defined_in p o methods loose given in_tables k l)
          ∙ ap (λ x. method_in x k.name k.signature) (some_same (given k l).class c (sym (given k l).named ∙ e))
          ∙ ap (λ x. method_in c x.name x.signature) (sym d) ∙ itself p loose sound tells k.class c m e i)

  module _ (k : MethodKey) (d : NamedClass) (w : ClassWas p loose names new same d) (x : FindsIt k d) where
    here : Was k
    here = subst Was x.is (found_was d.name k x.found x.finds)

    old : IsOld loose k.name k.signature
    old = in_old p o methods loose given in_tables k (subst (λ y. In y methods) here.key (in_tables.defined here.class.name here.class here.method (names here.class here.class_in) here.method_in))

    -- the class stands under that of the method
    under_here : is_own_under p d.name here.class.name ≡ true
    under_here =
        subst (λ (t : Text). is_own_under p d.name t ≡ true) (ap (λ (y : MethodKey). y.class) x.is ∙ sym (ap (λ (y : MethodKey). y.class) here.key))
        (sym (ap (λ (f : Text → Text → Bool). f d.name x.found.key.class) under_left)
        ∙ climb_under left everything (above left) upright_left d.name x.found.key.class
        (answer_climbs left everything (above left) upright_left k.name k.signature d.name x.found (at_in left everything (above left) upright_left d.name k x.found x.finds)))

    rivals : (g : Found) → finds_at p d.name k ≡ Finds g → loose g.key ≡ true → ⊥
    rivals g e l = clash (has_rival p g.key) found (apart g.key m.class m.method l named m.stands (ap (λ (y : Found). y.key) m.is) m.virtual).unrivalled
      where
        m : IsMethodOf p k.name k.signature g
        m = answer p everything (above p) upright k.name k.signature d.name g (at_in p everything (above p) upright d.name k g e)

        named : class_named p g.key.class ≡ Some m.class
        named = ap (class_named p) (ap (λ (y : MethodKey). y.class) m.key_is) ∙ m.named

        below : is_own_under p d.name g.key.class ≡ true
        below = climb_under p everything (above p) upright d.name g.key.class
            (answer_climbs p everything (above p) upright k.name k.signature d.name g (at_in p everything (above p) upright d.name k g e))

        -- they are of two classes
        differs : text_eq here.class.name g.key.class ≡ false
        differs = untrue (text_eq here.class.name g.key.class) (λ t. clash (loose k)
            (ap loose (ap (λ (u : Text). key u k.name k.signature) (sym (ap (λ (y : MethodKey). y.class) here.key) ∙ (text_sound here.class.name g.key.class t ∙ ap (λ (y : MethodKey). y.class) m.key_is)) ∙ sym m.key_is) ∙ l)
            (ap loose (sym here.key) ∙ here.stays))

        has : has_virtual g.key here.class ≡ true
        has = ap (λ (x : Option NamedMethod). elim x as (λ o. Bool) [ Some m ↦ is_virtual_method m | None ↦ false ])
            (ap (λ (y : MethodKey). method_in here.class y.name y.signature) m.key_is
            ∙ (ap (λ (y : MethodKey). method_in here.class y.name y.signature) (sym here.key)
            ∙ itself p loose sound tells here.class.name here.class here.method (names here.class here.class_in) here.method_in))
            ∙ here.virtual

        test : NamedClass → NamedClass → Bool
        test c u = not (text_eq u.name g.key.class) && is_own_under p c.name u.name && has_virtual g.key u

        below_was : is_own_under p w.class.name g.key.class ≡ true
        below_was = subst (λ (c : NamedClass). is_own_under p c.name g.key.class ≡ true) (sym w.is) below

        over_was : is_own_under p w.class.name here.class.name ≡ true
        over_was = subst (λ (c : NamedClass). is_own_under p c.name here.class.name ≡ true) (sym w.is) under_here

        found : has_rival p g.key ≡ true
        found = any_here (λ c. list_any (test c) p.classes) w.class (classes_under p g.key.class) (into_filter (λ c. is_own_under p c.name g.key.class) w.class p.classes w.is_in below_was)
            (any_here (test w.class) here.class p.classes here.class_in
            (ap (λ b. not b && is_own_under p w.class.name here.class.name && has_virtual g.key here.class) differs
            ∙ (ap (λ b. b && has_virtual g.key here.class) over_was ∙ has)))

    -- it finds it in the program
    finds_before : finds_it p k w.class ≡ true
    finds_before =
        ap (is_found_as k)
        (ap (λ (c : NamedClass). finds_at p c.name k) w.is
        ∙ (sym (at_same new static (members_alike new static tells_static same) d.name k ∙ virtually_left p loose sound.inner d.name k old (λ g e. by g e (loose g.key) refl)) ∙ x.finds))
        ∙ (ap (λ y. method_eq y k) x.is ∙ method_same k)
      where
        by : (g : Found) → finds_at p d.name k ≡ Finds g → (b : Bool) → loose g.key ≡ b → b ≡ false
        by g e false l = refl
        by g e true l = absurd (rivals g e l)

  -- ---- the table

  module _ (silent shut : MethodKey → Bool) (was : (k : MethodKey) → shut k ≡ true → WasShut o loose k) (alike : ShutsAlike left o.shut shut) (holds : ShutsHold p o) where
    abbrev table : Outer
    table = with_shut o silent shut

    uncalled : (k : MethodKey) → shut k ≡ true → called_outside left k.name k.signature ≡ false
    uncalled k e = untrue (called_outside left k.name k.signature) (by (was k e))
      where
        by : WasShut o loose k → called_outside left k.name k.signature ≡ true → ⊥
        by (Stayed s l) h = clash (called_outside p k.name k.signature) (outside_before p loose names new same k.name k.signature h) (holds.uncalled k s)
        by (Moved j l s is) h =
            let r = outside_named p loose names new same o methods in_tables sound tells k.name k.signature h in
            clash (same_name r.key.name r.key.signature j.name (new_signature j))
            (subst (λ (x : MethodKey). same_name r.key.name r.key.signature x.name x.signature ≡ true) is r.is_same)
            (none_in (λ t. same_name t.name t.signature j.name (new_signature j)) methods ((given j l).new) r.key r.is_in)

    plain : (k : MethodKey) (c : NamedClass) → is_037 p.version ≡ true → shut k ≡ true → class_named left k.class ≡ Some c → is_interface c.flags ≡ false
    plain k c v e i =
        let a = before_map (class_remade new) (class_named static k.class) c (sym (class_same new static k.class) ∙ i) in
        let b = before_map (static_class p loose) (class_named p k.class) a.0 (sym (class_same (made_static p loose) p k.class) ∙ a.1.0) in
        ap (λ (x : NamedClass). is_interface x.flags) (sym a.1.1) ∙ (ap (λ (x : NamedClass). is_interface x.flags) (sym b.1.1) ∙ by (was k e) b.0 b.1.0)
      where
        by : WasShut o loose k → (c : NamedClass) → class_named p k.class ≡ Some c → is_interface c.flags ≡ false
        by (Stayed s l) c i = holds.plain k c v s i
        by (Moved j l s is) c i = ap (λ (x : NamedClass). is_interface x.flags) (some_same c (given j l).class (sym i ∙ (ap (λ (x : MethodKey). class_named p x.class) is ∙ (given j l).named))) ∙ (given j l).in_class

    made_before : (t : Text) → may_be_made left table t ≡ true → may_be_made p o t ≡ true
    made_before t e =
        let concrete : is_concrete left t ≡ is_concrete p t =
        at_class new static (λ c. not (is_interface c.flags) && not (is_abstract c.flags)) (λ c. not (is_interface c.flags) && not (is_abstract c.flags)) false (λ c. refl) t
        ∙ at_class (made_static p loose) p (λ c. not (is_interface c.flags) && not (is_abstract c.flags)) (λ c. not (is_interface c.flags) && not (is_abstract c.flags)) false (λ c. refl) t in
        both_true (is_concrete p t) (o.classes t || o.constructed t || makes_new p t)
        (sym concrete ∙ and_left (is_concrete left t) (o.classes t || o.constructed t || makes_new left t) e)
        (more (o.classes t || o.constructed t) (makes_new left t) (makes_new p t) (makes_before p loose names new same t) (and_behind (is_concrete left t) (o.classes t || o.constructed t || makes_new left t) e))
      where
        both_true : (a b : Bool) → a ≡ true → b ≡ true → (a && b) ≡ true
        both_true a b h i = ap (λ a. a && b) h ∙ i

        more : (a b c : Bool) → (b ≡ true → c ≡ true) → (a || b) ≡ true → (a || c) ≡ true
        more true b c h e = refl
        more false b c h e = h e

    module _ (k : MethodKey) (m : NamedMethod) (d e : NamedClass) (x : NamedMethod) (shut_k : shut k ≡ true) (name : m.name ≡ k.name) (signature : m.signature ≡ k.signature) (d_in : In d left.classes) (finds : finds_it left k d ≡ true)
        (made : may_be_made left table d.name ≡ true) (outside : (is_outward left d.name || is_common k.name k.signature) ≡ true) (e_in : In e left.classes) (over : is_own_under left d.name e.name ≡ true) (x_in : In x e.methods)
        (other : is_other k.class m e x ≡ true) where
      w : ClassWas p loose names new same d
      w = class_was p loose names new same d d_in

      u : ClassWas p loose names new same e
      u = class_was p loose names new same e e_in

      y : MethodWas p loose names new same u.class x
      y = method_was p loose names new same e u x x_in

      z : FindsIt k d
      z = finds_left k d finds

      virtual : is_virtual_method x ≡ true
      virtual = and_behind (same_name x.name x.signature m.name m.signature) (is_virtual_method x)
          (and_left (same_name x.name x.signature m.name m.signature && is_virtual_method x) (is_some x.body)
          (and_left (same_name x.name x.signature m.name m.signature && is_virtual_method x && is_some x.body) (not (text_eq e.name k.class)) other))

      recall : recalled p loose y.method ≡ x
      recall = sym (stays p loose u.class y.method (virtual_stays p loose names new same sound tells u.class y.method u.is_in y.is_in (subst (λ v. is_virtual_method v ≡ true) (sym y.is) virtual))) ∙ y.is

      other_before : is_other k.class m u.class y.method ≡ true
      other_before = sym (ap (λ b. same_name y.method.name y.method.signature m.name m.signature && is_virtual_method y.method && b && not (text_eq u.class.name k.class)) (mapped_some (static_body p loose) y.method.body))
          ∙ (ap (λ v. is_other k.class m u.class v) recall ∙ (ap (λ (c : NamedClass). is_other k.class m c x) u.is ∙ other))

      key_before : key_of u.class y.method ≡ key_of e x
      key_before = ap (key_of u.class) recall ∙ ap (λ (c : NamedClass). key_of c x) u.is

      shut_same : shut (key_of e x) ≡ o.shut (key_of e x)
      shut_same = alike e.name e x (left_named e e_in) (contained x e.methods x_in) virtual

      still : o.shut k ≡ true → (o.methods (key_of e x) || shut (key_of e x)) ≡ true
      still s = ap (λ b. o.methods (key_of e x) || b) shut_same
          ∙ subst (λ v. (o.methods v || o.shut v) ≡ true) key_before
          (holds.others k m w.class u.class y.method s name signature w.is_in (finds_before k d w z)
          (subst (λ (c : NamedClass). may_be_made p o c.name ≡ true) (sym w.is) (made_before d.name made))
          (subst (λ (c : NamedClass). (is_outward p c.name || is_common k.name k.signature) ≡ true) (sym w.is) (sym (ap (λ (f : Text → Bool). f d.name || is_common k.name k.signature) outward_left) ∙ outside))
          u.is_in
          (subst (λ (c : NamedClass). is_own_under p c.name u.class.name ≡ true) (sym w.is) (subst (λ (c : NamedClass). is_own_under p d.name c.name ≡ true) (sym u.is) (sym (ap (λ (f : Text → Text → Bool). f d.name e.name) under_left) ∙ over)))
          y.is_in other_before)

      others : (o.methods (key_of e x) || shut (key_of e x)) ≡ true
      others = by (was k shut_k)
        where
          by : WasShut o loose k → (o.methods (key_of e x) || shut (key_of e x)) ≡ true
          by (Stayed s l) = still s
          by (Moved j l s is) =
              let a = here k d w z in
              let i : In k methods = subst (λ y. In y methods) a.key (in_tables.defined a.class.name a.class a.method (names a.class a.class_in) a.method_in) in
              clash (same_name k.name k.signature j.name (new_signature j))
              (subst (λ (y : MethodKey). same_name y.name y.signature j.name (new_signature j) ≡ true) (sym is) (name_same j.name (new_signature j)))
              (none_in (λ t. same_name t.name t.signature j.name (new_signature j)) methods ((given j l).new) k i)

    pub still_hold_by : ShutsHold left table
    still_hold_by = record { uncalled = uncalled; others = others; plain = plain }

pub still_hold : (p : NamedProgram) (o : Outer) (methods : List MethodKey) (loose : MethodKey → Bool) → MayAllBeStatic p o methods loose → AreInTables p o methods
    → IsRegular p → NamesOnce p → TellsApart p → TellsApart (staticised p loose) → (new : Remethod) → SameMethods new (staticised p loose) → (silent shut : MethodKey → Bool)
    → ((k : MethodKey) → shut k ≡ true → WasShut o loose k) → ShutsAlike (remade new (staticised p loose)) o.shut shut → ShutsHold p o
    → ShutsHold (remade new (staticised p loose)) (with_shut o silent shut)
still_hold p o methods loose given in_tables upright names tells tells_static new same silent shut was alike holds =
    still_hold_by p o methods loose given in_tables upright names tells tells_static new same silent shut was alike holds
