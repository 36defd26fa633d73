-- A written program answers look-ups as the program does, so it shows the same and stays typed.
use Rattle.std.proofs.Common.{◌≡◌, ◌<◌, ℕ, zero, suc, Bool, true, false, List, [], ◌∷◌, length, map, Option, Some, None, refl, sym, ap, ◌∙◌, subst, arith, inl, inr}
use Rattle.std.specs.Prelude.{nat_eq, slice_get, slice_index_or, Contains}
use Rattle.std.specs.List.{list_any, AllByRecursion}
use Rattle.std.proofs.lemmas.Option.{slice_get_within}
use Rattle.lemmas.proofs.Lists.{map_long}
use Rattle.lemmas.proofs.Options.{some_same}
use Rattle.class_defs.specs.ClassGraph.{IsAncestor, IsTwice}
use Rattle.dalvik_defs.specs.Names.{Text, text_eq}
use Rattle.dalvik_defs.specs.Naming.{type_at, named_method, named_class, named}
use Rattle.dalvik_defs.specs.Outer.{Outer}
use Rattle.dalvik_defs.specs.Step.{shows}
use Rattle.dalvik_defs.specs.Under.{class_named}
use Rattle.dalvik_defs.specs.declared.program.NamedBody.{NamedBody}
use Rattle.dalvik_defs.specs.declared.program.NamedMethod.{NamedMethod}
use Rattle.dalvik_defs.specs.declared.program.NamedClass.{NamedClass}
use Rattle.dalvik_defs.specs.declared.program.NamedProgram.{NamedProgram}
use Rattle.dalvik_defs.specs.declared.script.Move.{Move}
use Rattle.dalvik_defs.specs.declared.tables.Floats.{Floats}
use Rattle.dalvik_defs.specs.declared.tables.Framework.{Framework}
use Rattle.dalvik_defs.proofs.Calm.{text_sound}
use Rattle.dex_defs.specs.Written.{in_order, method_below, written_method, written_class, class_order, entries, written_by}
use Rattle.dex_pools.specs.Interned.{IsInterned}
use Rattle.dex_pools.specs.declared.interner.Interner.{Interner}
use Rattle.dex_write.specs.Order.{IsOrder}
use Rattle.program_model.specs.ProgramRules.{is_well_formed}
use Rattle.program_model.specs.declared.program.Method.{Method}
use Rattle.program_model.specs.declared.program.Class.{Class}
use Rattle.program_model.specs.declared.program.Program.{Program}
use Rattle.write_laws.specs.Used.{IsShort}
use Rattle.pass_defs.specs.Typed.{Table, IsTyping, IsTyped}
use Rattle.write_laws.specs.Members.{KeepsMethod, KeepsClass}
use Rattle.write_laws.proofs.Carried.{entries_long}
use Rattle.write_laws.proofs.Keeping.{classes_kept}
use Rattle.write_laws.proofs.Tabled.{short_of, is_short}
use Rattle.removal_law.specs.Reach.{TellsApart}
use Rattle.removal_law.proofs.Lists.{clash}
use Rattle.removal_law.proofs.Walks.{text_same}
use Rattle.removal_bridge.proofs.Formed.{apart_program}
use Rattle.bodies_kept.specs.Unique.{IsUnique}
use Rattle.bodies_kept.proofs.Unique.{unique_named}
use Rattle.written_file.proofs.In.{In, in_map, Place, place_in, in_contains, all_in}
use Rattle.written_file.proofs.Fit.{Parts, parts_of, FitsClass, class_at_fits}
use Rattle.written_file.specs.Behind.{AllBehind}
use Rattle.written_file.proofs.Order.{order_is, order_behind, order_every}
use Rattle.written_file.proofs.Plans.{behind_inside}
use Rattle.written_kept.proofs.Alike.{AlikeClass, AlikeOption, LooksAlike}
use Rattle.written_kept.proofs.Looks.{alike_shows}
use Rattle.written_kept.proofs.Typings.{KindsAlike, kinds_alike, typing_moved}
use Rattle.written_kept.proofs.Twins.{Image, image, in_order_only, in_entries, entries_in, finds, is_there, any_there, some_there, order_long}
use Rattle.written_kept.proofs.Classes.{class_found, class_alike}

module _ (p : Program) (i : Interner) (order : List ℕ) (formed : is_well_formed p ≡ true) (once : (class : ℕ) → IsTwice p class → ⊥) (grounded : (class : ℕ) → IsAncestor p class class → ⊥) (h : IsInterned p i) (ordered : IsOrder p order) where
  abbrev q : Program
  q = written_by i p

  abbrev parts : Parts p
  parts = parts_of p formed

  abbrev fits : (k : ℕ) (c : Class) → slice_get p.classes k ≡ Some c → FitsClass p c
  fits k c e = class_at_fits p k c parts e

  unique : IsUnique (named p)
  unique = unique_named p formed once

  few : IsShort p
  few = is_short p (short_of p parts.short)

  same_order : class_order p ≡ order
  same_order = order_is p (λ k c e. (fits k c e).above) once grounded order ordered

  behind : AllBehind p [] order
  behind = order_behind p (λ k c e. (fits k c e).above) once grounded order ordered

  every : (k : ℕ) → k < length p.classes → list_any (nat_eq k) order ≡ true
  every k lt = order_every p (λ k c e. (fits k c e).above) once grounded order ordered k lt

  -- each class, and what is written of it
  alike : (c : Class) → In c p.classes → AlikeClass (named_class p c) (named_class q (written_class i.numbers p c))
  alike c j =
      let at : Place c p.classes = place_in c p.classes j in
      class_alike p formed unique (apart_program p formed) i at.at c at.is (fits at.at c at.is) (all_in (KeepsClass p i q) c p.classes (classes_kept p i few h) j)

  found : (c : Class) → In c p.classes → class_named (named p) (type_at p c.name) ≡ Some (named_class p c)
  found c j = let at : Place c p.classes = place_in c p.classes j in class_found p unique at.at c at.is

  written : (c : Class) → In c p.classes → In (named_class q (written_class i.numbers p c)) (named q).classes
  written c j =
      let at : Place c p.classes = place_in c p.classes j in
      in_map (named_class q) (written_class i.numbers p c) q.classes
      (entries_in (written_class i.numbers p) p.classes (class_order p) at.at c at.is (subst (λ l. list_any (nat_eq at.at) l ≡ true) (sym same_order) (every at.at (slice_get_within p.classes at.at c at.is))))

  -- where a class that is written comes from
  pub record Comes (d : NamedClass) : Type 0 where
    pub class : Class
    pub is_in : In class p.classes
    pub is : named_class q (written_class i.numbers p class) ≡ d

  comes : (d : NamedClass) → In d (named q).classes → Comes d
  comes d j =
      let u : Image (named_class q) q.classes d = image (named_class q) d q.classes j in
      let v : Image (written_class i.numbers p) p.classes u.x = in_entries (written_class i.numbers p) p.classes (class_order p) u.x u.is_in in
      record { class = v.x; is_in = v.is_in; is = ap (named_class q) v.is ∙ u.is }

  class_looks : (t : Text) → AlikeOption (class_named (named p) t) (class_named (named q) t)
  class_looks t = by (class_named (named p) t) (class_named (named q) t) refl refl
    where
      from_q : (d : NamedClass) → class_named (named q) t ≡ Some d → (c : NamedClass) × ((class_named (named p) t ≡ Some c) × AlikeClass c d)
      from_q d e =
          let y = is_there (λ d. text_eq d.name t) (named q).classes d e in
          let z : Comes d = comes d y.is_in in
          let a : AlikeClass (named_class p z.class) (named_class q (written_class i.numbers p z.class)) = alike z.class z.is_in in
          let name : type_at p z.class.name ≡ t = sym a.name ∙ ap (λ x. x.name) z.is ∙ text_sound d.name t y.passes in
          (named_class p z.class, (ap (class_named (named p)) (sym name) ∙ found z.class z.is_in, subst (AlikeClass (named_class p z.class)) z.is a))

      by : (o r : Option NamedClass) → class_named (named p) t ≡ o → class_named (named q) t ≡ r → AlikeOption o r
      by None None e d = tt
      by (Some c) (Some x) e d = let y = from_q x d in subst (λ z. AlikeClass z x) (some_same y.0 c (sym y.1.0 ∙ e)) y.1.1
      by None (Some x) e d = let y = from_q x d in none (sym e ∙ y.1.0)
        where
          none : {c : NamedClass} → None ≡ Some c → ⊥
          none s = absurd cc
      by (Some c) None e d =
          let y = is_there (λ d. text_eq d.name t) (named p).classes c e in
          let u : Image (named_class p) p.classes c = image (named_class p) c p.classes y.is_in in
          let a : AlikeClass (named_class p u.x) (named_class q (written_class i.numbers p u.x)) = alike u.x u.is_in in
          let name : text_eq (named_class q (written_class i.numbers p u.x)).name t ≡ true = ap (λ x. text_eq x t) (a.name ∙ ap (λ x. x.name) u.is) ∙ y.passes in
          finds (λ d. text_eq d.name t) (named_class q (written_class i.numbers p u.x)) (named q).classes (written u.x u.is_in) name d

  abbrev says : (Text → List Text → Bool) → NamedClass → Bool
  says test c = test c.name c.interfaces

  lists_look : (test : Text → List Text → Bool) → list_any (λ c. test c.name c.interfaces) (named q).classes ≡ list_any (λ c. test c.name c.interfaces) (named p).classes
  lists_look test = by (list_any (says test) (named q).classes) (list_any (says test) (named p).classes) refl refl
    where
      same : (c : Class) → In c p.classes → says test (named_class q (written_class i.numbers p c)) ≡ says test (named_class p c)
      same c j = let a = alike c j in ap (λ t. test t (named_class q (written_class i.numbers p c)).interfaces) a.name ∙ ap (test (type_at p c.name)) a.interfaces

      by : (o r : Bool) → list_any (says test) (named q).classes ≡ o → list_any (says test) (named p).classes ≡ r → o ≡ r
      by true true d e = refl
      by false false d e = refl
      by true false d e =
          let y = some_there (says test) (named q).classes d in
          let z : Comes y.0 = comes y.0 y.1.is_in in
          clash (list_any (says test) (named p).classes) (any_there (says test) (named_class p z.class) (named p).classes (in_map (named_class p) z.class p.classes z.is_in) (sym (same z.class z.is_in) ∙ ap (says test) z.is ∙ y.1.passes)) e
      by false true d e =
          let y = some_there (says test) (named p).classes e in
          let u : Image (named_class p) p.classes y.0 = image (named_class p) y.0 p.classes y.1.is_in in
          clash (list_any (says test) (named q).classes) (any_there (says test) (named_class q (written_class i.numbers p u.x)) (named q).classes (written u.x u.is_in) (same u.x u.is_in ∙ ap (says test) u.is ∙ y.1.passes)) d

  looks : LooksAlike (named p) (named q)
  looks = record {
    version = refl;
    count = map_long (named_class q) q.classes ∙ ap (λ l. length (entries (written_class i.numbers p) p.classes l)) same_order
        ∙ entries_long (written_class i.numbers p) p.classes order (behind_inside p [] order behind) ∙ order_long p order behind every ∙ sym (map_long (named_class p) p.classes);
    class = class_looks;
    lists = lists_look;
  }

pub written_shows : (p : Program) (i : Interner) (order : List ℕ) → is_well_formed p ≡ true → ((class : ℕ) → IsTwice p class → ⊥) → ((class : ℕ) → IsAncestor p class class → ⊥) → IsInterned p i → IsOrder p order
    → (o : Outer) (f : Framework) (a : Floats) (script : List Move) (n : ℕ) → shows (named (written_by i p)) o f a script n ≡ shows (named p) o f a script n
written_shows p i order formed once grounded h ordered o f a script n = alike_shows (named p) (named (written_by i p)) (looks p i order formed once grounded h ordered) o f a script n

-- ---- typings

in_place : {A : Type 0} (xs : List A) (n : ℕ) (x : A) → n < length xs → slice_index_or xs n x ≡ x → In x xs
in_place [] n x lt e = absurd (omega (arith, lt))
in_place (y ∷ ys) zero x lt e = inl e
in_place (y ∷ ys) (suc n) x lt e = inr (in_place ys n x (omega (arith, lt)) e)

-- a class and a method of the same names, flags, superclass and signature have the same typings
module _ (q : NamedProgram) (c d : NamedClass) (name : d.name ≡ c.name) (flags : d.flags ≡ c.flags) (above : d.superclass ≡ c.superclass) (m n : NamedMethod) (called : n.name ≡ m.name) (signed : n.signature ≡ m.signature) (flagged : n.flags ≡ m.flags) where
  class_is : record d { name = c.name; flags = c.flags; superclass = c.superclass } ≡ d
  class_is = ap (λ t. record d { name = t; flags = c.flags; superclass = c.superclass }) (sym name) ∙ ap (λ f. record d { flags = f; superclass = c.superclass }) (sym flags) ∙ ap (λ t. record d { superclass = t }) (sym above)

  method_is : record n { name = m.name; signature = m.signature; flags = m.flags } ≡ n
  method_is = ap (λ t. record n { name = t; signature = m.signature; flags = m.flags }) (sym called) ∙ ap (λ s. record n { signature = s; flags = m.flags }) (sym signed) ∙ ap (λ f. record n { flags = f }) (sym flagged)

  retyped : (b : NamedBody) (t : Table) → IsTyping q (record d { name = c.name; flags = c.flags; superclass = c.superclass }) (record n { name = m.name; signature = m.signature; flags = m.flags }) b t → IsTyping q d n b t
  retyped b t h = subst (λ x. IsTyping q d x b t) method_is (subst (λ x. IsTyping q x (record n { name = m.name; signature = m.signature; flags = m.flags }) b t) class_is h)

module _ (p : Program) (i : Interner) (order : List ℕ) (formed : is_well_formed p ≡ true) (once : (class : ℕ) → IsTwice p class → ⊥) (grounded : (class : ℕ) → IsAncestor p class class → ⊥) (h : IsInterned p i) (ordered : IsOrder p order) where
  pub written_typed : IsTyped (named p) → IsTyped (named (written_by i p))
  written_typed typed = record { bodies = in_program }
    where
      kinds : KindsAlike (named p) (named (written_by i p))
      kinds = kinds_alike (named p) (named (written_by i p)) (looks p i order formed once grounded h ordered)

      in_method : (c : Class) (m : Method) (b : NamedBody) → In c p.classes → In m c.methods → (named_method (written_by i p) (written_method i.numbers m)).body ≡ Some b
          → (t : Table) × IsTyping (named (written_by i p)) (named_class (written_by i p) (written_class i.numbers p c)) (named_method (written_by i p) (written_method i.numbers m)) b t
      in_method c m b j l e =
          let keeps : KeepsClass p i (written_by i p) c = all_in (KeepsClass p i (written_by i p)) c p.classes (classes_kept p i (few p i order formed once grounded h ordered) h) j in
          let kept : KeepsMethod p i (written_by i p) m = all_in (KeepsMethod p i (written_by i p)) m c.methods keeps.methods l in
          let old = typed.bodies (named_class p c) (named_method p m) b (in_contains (named_class p c) (named p).classes (in_map (named_class p) c p.classes j)) (in_contains (named_method p m) (named_class p c).methods (in_map (named_method p) m c.methods l)) (sym kept.code ∙ e) in (
            old.0,
            retyped (named (written_by i p)) (named_class p c) (named_class (written_by i p) (written_class i.numbers p c)) keeps.name refl keeps.superclass (named_method p m) (named_method (written_by i p) (written_method i.numbers m))
                (ap (λ k. k.name) kept.name) (ap (λ k. k.signature) kept.name) refl b old.0
                (typing_moved (named p) (named (written_by i p)) kinds (named_class p c) (named_class (written_by i p) (written_class i.numbers p c)) (named_method p m) (named_method (written_by i p) (written_method i.numbers m)) b old.0 old.1),
          )

      in_class : (c : Class) (n : NamedMethod) (b : NamedBody) → In c p.classes → In n (named_class (written_by i p) (written_class i.numbers p c)).methods → n.body ≡ Some b
          → (t : Table) × IsTyping (named (written_by i p)) (named_class (written_by i p) (written_class i.numbers p c)) n b t
      in_class c n b j l e =
          let u : Image (named_method (written_by i p)) (written_class i.numbers p c).methods n = image (named_method (written_by i p)) n (written_class i.numbers p c).methods l in
          let v : Image (written_method i.numbers) (in_order (method_below i.numbers p) c.methods) u.x = image (written_method i.numbers) u.x (in_order (method_below i.numbers p) c.methods) u.is_in in
          let is : named_method (written_by i p) (written_method i.numbers v.x) ≡ n = ap (named_method (written_by i p)) v.is ∙ u.is in
          subst (λ x. (t : Table) × IsTyping (named (written_by i p)) (named_class (written_by i p) (written_class i.numbers p c)) x b t) is
          (in_method c v.x b j (in_order_only (method_below i.numbers p) v.x c.methods v.is_in) (ap (λ x. x.body) is ∙ e))

      in_program : (d : NamedClass) (n : NamedMethod) (b : NamedBody) → Contains (named (written_by i p)).classes d → Contains d.methods n → n.body ≡ Some b → (t : Table) × IsTyping (named (written_by i p)) d n b t
      in_program d n b j l e =
          let z : Comes p i order formed once grounded h ordered d = comes p i order formed once grounded h ordered d (in_place (named (written_by i p)).classes j.0 d j.1 j.2) in
          subst (λ x. (t : Table) × IsTyping (named (written_by i p)) x n b t) z.is
          (in_class z.class n b z.is_in (subst (λ x. In n x.methods) (sym z.is) (in_place d.methods l.0 n l.1 l.2)) e)
