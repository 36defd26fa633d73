-- A table of shut methods, where these are none, or those of the definition, holds what it says.
use Rattle.std.proofs.Common.{◌≡◌, ℕ, zero, suc, Bool, true, false, length, refl, sym, ap, ◌∙◌}
use Rattle.std.specs.Prelude.{◌&&◌, ◌||◌, not, is_some}
use Rattle.std.specs.List.{list_all}
use Rattle.lemmas.proofs.Bools.{not_true}
use Rattle.lemmas.proofs.Options.{some_same}
use Rattle.dalvik_defs.specs.Names.{is_common, same_name, text_eq}
use Rattle.dalvik_defs.specs.Flags.{is_interface}
use Rattle.dalvik_defs.specs.Under.{class_named, is_own_under, is_outward}
use Rattle.dalvik_defs.specs.Find.{is_virtual_method, is_037}
use Rattle.dalvik_defs.specs.Outer.{Outer}
use Rattle.dalvik_defs.specs.Shut.{Library, types_clear, key_of, keeper_over, finds_it, called_outside, is_other, is_shut}
use Rattle.dalvik_defs.specs.declared.names.MethodKey.{MethodKey}
use Rattle.dalvik_defs.specs.declared.program.NamedMethod.{NamedMethod}
use Rattle.dalvik_defs.specs.declared.program.NamedClass.{NamedClass}
use Rattle.dalvik_defs.specs.declared.program.NamedProgram.{NamedProgram}
use Rattle.dalvik_defs.proofs.Same.{all_more, or_more, and_more}
use Rattle.removal_law.specs.Left.{In}
use Rattle.removal_law.specs.Reach.{may_be_made, ShutsHold, IsNarrowed}
use Rattle.removal_law.proofs.Lists.{clash, and_left, and_behind, all_in}

pub nothing_shut : (p : NamedProgram) (o : Outer) → ((k : MethodKey) → o.shut k ≡ false) → ShutsHold p o
nothing_shut p o h = record {
  uncalled = λ k e. clash (o.shut k) e (h k);
  others = λ k m d e x i a b j f may out g u v w. clash (o.shut k) i (h k);
  plain = λ k c v i e. clash (o.shut k) i (h k);
}

-- of two tests the first of which fails
or_rest : (a b : Bool) → (not a || b) ≡ true → a ≡ true → b ≡ true
or_rest true b e i = e
or_rest false b e i = clash false i refl

and_no : (a b : Bool) → (a && b) ≡ false → a ≡ true → b ≡ false
and_no true b e i = e
and_no false b e i = clash false i refl

module _ (p : NamedProgram) (o : Outer) (l : Library) where
  -- what a shut method owes at a class that finds it, and at one above that
  abbrev at_member : ℕ → NamedClass → NamedMethod → NamedClass → NamedMethod → Bool
  at_member k c m e x = not (is_other c.name m e x) || o.methods (key_of e x) || is_shut k p o l e x

  abbrev at_upper : ℕ → NamedClass → NamedMethod → NamedClass → NamedClass → Bool
  at_upper k c m d e = not (is_own_under p d.name e.name) || list_all (at_member k c m e) e.methods

  abbrev clear : NamedMethod → NamedClass → Bool
  clear m d = not (keeper_over p o m d.name) && types_clear p l m.name m.signature d.name

  abbrev at_class : ℕ → NamedClass → NamedMethod → NamedClass → Bool
  at_class k c m d = not (finds_it p (key_of c m) d) || (clear m d && list_all (at_upper k c m d) p.classes)

  abbrev basic : NamedClass → NamedMethod → Bool
  basic c m = is_virtual_method m && not (o.methods (key_of c m)) && not (is_common m.name m.signature) && not (is_037 p.version && is_interface c.flags) && not (called_outside p m.name m.signature)

  -- more levels shut no less
  more : (k : ℕ) (c : NamedClass) (m : NamedMethod) → is_shut k p o l c m ≡ true → is_shut (suc k) p o l c m ≡ true
  more zero c m e = clash false e refl
  more (suc k) c m e = and_more (basic c m) (list_all (at_class k c m) p.classes) (basic c m) (list_all (at_class (suc k) c m) p.classes) (λ i. i)
      (all_more (at_class k c m) (at_class (suc k) c m) (λ d. or_more (not (finds_it p (key_of c m) d)) (clear m d && list_all (at_upper k c m d) p.classes)
      (not (finds_it p (key_of c m) d)) (clear m d && list_all (at_upper (suc k) c m d) p.classes) (λ i. i)
      (and_more (clear m d) (list_all (at_upper k c m d) p.classes) (clear m d) (list_all (at_upper (suc k) c m d) p.classes) (λ i. i)
      (all_more (at_upper k c m d) (at_upper (suc k) c m d) (λ u. or_more (not (is_own_under p d.name u.name)) (list_all (at_member k c m u) u.methods) (not (is_own_under p d.name u.name)) (list_all (at_member (suc k) c m u) u.methods) (λ i. i)
      (all_more (at_member k c m u) (at_member (suc k) c m u) (λ x. or_more (not (is_other c.name m u x) || o.methods (key_of u x)) (is_shut k p o l u x) (not (is_other c.name m u x) || o.methods (key_of u x)) (is_shut (suc k) p o l u x) (λ i. i)
      (more k u x)) u.methods)) p.classes))) p.classes) e

  module _ (narrow : IsNarrowed p o l) where
    or_last : (a b c : Bool) → (not a || b || c) ≡ true → a ≡ true → (c ≡ true → b ≡ true) → b ≡ true
    or_last true true c e i h = refl
    or_last true false c e i h = h e
    or_last false b c e i h = clash false i refl

    first_true : (a b c : Bool) → (not a || b || c) ≡ true → a ≡ true → (b || c) ≡ true
    first_true true b c e i = e
    first_true false b c e i = clash false i refl

    or_up : (a b c : Bool) → (a || b) ≡ true → (b ≡ true → c ≡ true) → (a || c) ≡ true
    or_up true b c e h = refl
    or_up false b c e h = h e

    others : (k : MethodKey) (m : NamedMethod) (d e : NamedClass) (x : NamedMethod) → o.shut k ≡ true → m.name ≡ k.name → m.signature ≡ k.signature → In d p.classes → finds_it p k d ≡ true
        → may_be_made p o d.name ≡ true → (is_outward p d.name || is_common k.name k.signature) ≡ true → In e p.classes → is_own_under p d.name e.name ≡ true → In x e.methods → is_other k.class m e x ≡ true → (o.methods (key_of e x) || o.shut (key_of e x)) ≡ true
    others k m d e x i a b j g made open_to u v w z =
        let n = narrow.only k i in
        let c = n.0 in
        let y = n.1.0 in
        let same : key_of c y ≡ k = n.1.1.1.0 in
        let s : is_shut (suc (length p.classes)) p o l c y ≡ true = n.1.1.1.1 in
        let t : at_class (length p.classes) c y d ≡ true = all_in (at_class (length p.classes) c y) p.classes (and_behind (basic c y) (list_all (at_class (length p.classes) c y) p.classes) s) d j in
        let r : (clear y d && list_all (at_upper (length p.classes) c y d) p.classes) ≡ true =
        or_rest (finds_it p (key_of c y) d) (clear y d && list_all (at_upper (length p.classes) c y d) p.classes) t (ap (λ q. finds_it p q d) same ∙ g) in
        let f : at_upper (length p.classes) c y d e ≡ true =
        all_in (at_upper (length p.classes) c y d) p.classes (and_behind (clear y d) (list_all (at_upper (length p.classes) c y d) p.classes) r) e u in
        let h : at_member (length p.classes) c y e x ≡ true =
        all_in (at_member (length p.classes) c y e) e.methods (or_rest (is_own_under p d.name e.name) (list_all (at_member (length p.classes) c y e) e.methods) f v) x w in
        let q : is_other c.name y e x ≡ true = ap (λ z. same_name x.name x.signature z.name z.signature && is_virtual_method x && is_some x.body && not (text_eq e.name z.class)) same
        ∙ ap (λ z. same_name x.name x.signature z k.signature && is_virtual_method x && is_some x.body && not (text_eq e.name k.class)) (sym a)
        ∙ ap (λ z. same_name x.name x.signature m.name z && is_virtual_method x && is_some x.body && not (text_eq e.name k.class)) (sym b) ∙ z in
        or_up (o.methods (key_of e x)) (is_shut (length p.classes) p o l e x) (o.shut (key_of e x))
        (first_true (is_other c.name y e x) (o.methods (key_of e x)) (is_shut (length p.classes) p o l e x) h q)
        (λ b. narrow.all e x u w (more (length p.classes) e x b))

    pub narrowed : ShutsHold p o
    narrowed = record {
      uncalled = λ k i. let n = narrow.only k i in
          ap (λ z. called_outside p z.name z.signature) (sym n.1.1.1.0)
          ∙ not_true (called_outside p n.1.0.name n.1.0.signature) (and_behind (is_virtual_method n.1.0 && not (o.methods (key_of n.0 n.1.0)) && not (is_common n.1.0.name n.1.0.signature) && not (is_037 p.version && is_interface n.0.flags)) (not (called_outside p n.1.0.name n.1.0.signature))
          (and_left (basic n.0 n.1.0) (list_all (at_class (length p.classes) n.0 n.1.0) p.classes) n.1.1.1.1));
      others = others;
      plain = λ k c v i e. let n = narrow.only k i in
          let same : n.0 ≡ c = some_same n.0 c (sym n.1.1.0 ∙ ap (λ z. class_named p z.class) n.1.1.1.0 ∙ e) in
          ap (λ z. is_interface z.flags) (sym same)
          ∙ and_no (is_037 p.version) (is_interface n.0.flags) (not_true (is_037 p.version && is_interface n.0.flags)
          (and_behind (is_virtual_method n.1.0 && not (o.methods (key_of n.0 n.1.0)) && not (is_common n.1.0.name n.1.0.signature)) (not (is_037 p.version && is_interface n.0.flags))
          (and_left (is_virtual_method n.1.0 && not (o.methods (key_of n.0 n.1.0)) && not (is_common n.1.0.name n.1.0.signature) && not (is_037 p.version && is_interface n.0.flags)) (not (called_outside p n.1.0.name n.1.0.signature))
          (and_left (basic n.0 n.1.0) (list_all (at_class (length p.classes) n.0 n.1.0) p.classes) n.1.1.1.1)))) v;
    }
