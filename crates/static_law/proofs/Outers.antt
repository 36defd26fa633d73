-- What the outside names by the tables of a program in which methods are static: the same but for silent and shut methods, and it shuts
-- the same of the virtual methods that are left.
use Rattle.std.proofs.Common.{◌≡◌, ℕ, Bool, true, false, true≢false, List, [], ◌∷◌, map, Option, Some, None, refl, sym, ap, ◌∙◌, subst}
use std.Path.{fun_ext}
use Rattle.std.specs.Prelude.{◌&&◌, ◌||◌, not, filter, is_some, length, slice_get, if◌then◌else◌, Contains}
use Rattle.std.specs.List.{list_any}
use Rattle.std.specs.Option.{option_map}
use Rattle.lemmas.proofs.Options.{before_map}
use Rattle.program_model.specs.declared.pass.Outside.{Outside}
use Rattle.program_model.specs.declared.program.Program.{Program}
use Rattle.class_defs.specs.ClassGraph.{IsTwice}
use Rattle.dalvik_defs.specs.Find.{is_virtual_method}
use Rattle.dalvik_defs.specs.Flags.{is_private, is_special, is_static, is_virtual}
use Rattle.dalvik_defs.specs.Names.{Text, field_eq, method_eq, same_name, text_eq}
use Rattle.dalvik_defs.specs.Naming.{field_at, method_at, named, type_at}
use Rattle.dalvik_defs.specs.Outer.{Outer, is_constructor_of, methods_in, outer_of}
use Rattle.dalvik_defs.specs.Silence.{key_in}
use Rattle.dalvik_defs.specs.Under.{class_named}
use Rattle.dalvik_defs.specs.declared.names.FieldKey.{FieldKey}
use Rattle.dalvik_defs.specs.declared.names.MethodKey.{MethodKey}
use Rattle.dalvik_defs.specs.declared.names.Signature.{Signature}
use Rattle.dalvik_defs.specs.declared.program.NamedClass.{NamedClass}
use Rattle.dalvik_defs.specs.declared.program.NamedMethod.{NamedMethod}
use Rattle.dalvik_defs.specs.declared.program.NamedProgram.{NamedProgram}
use Rattle.run_laws.specs.Holds.{Each}
use Rattle.name_bridge.proofs.Tables.{Sound}
use Rattle.pass_defs.specs.Loose.{new_key, new_signature, static_class, static_method, staticised}
use Rattle.pass_defs.specs.Numbered.{tables_of}
use Rattle.removal_law.specs.Left.{In}
use Rattle.removal_law.specs.Reach.{TellsApart}
use Rattle.removal_law.proofs.Declared.{method_sound, name_same}
use Rattle.removal_law.proofs.Lists.{clash, contained, none_in}
use Rattle.removal_law.proofs.Trees.{class_name}
use Rattle.program_laws.proofs.ChangedLists.{any_map}
use Rattle.program_laws.specs.Shutting.{ShutsAlike, with_shut}
use Rattle.program_laws.specs.Remade.{Remethod, SameMethods, class_remade, remade}
use Rattle.program_laws.proofs.Remade.{class_same}
use Rattle.static_law.specs.Static.{AreInTables, IsSound, MayAllBeStatic, made_static}
use Rattle.static_law.proofs.Declared.{from_map, turned_static}
use Rattle.static_law.proofs.Methods.{recalled, stays}
use Rattle.static_law.specs.Edited.{IsEdited, IsPlanned, loose_in}
use Rattle.static_law.proofs.Forms.{inside_table}
use Rattle.static_law.proofs.Programs.{in_from, named_now, new, same_methods}
use Rattle.static_law.proofs.Tables.{field_same, loose_number, method_same_at, type_same}

-- ---- the virtual methods that are left, by name

-- a method of the program that isn't made static
pub record WasThere (p : NamedProgram) (loose : MethodKey → Bool) (k : MethodKey) : Type 0 where
  pub class : NamedClass
  pub method : NamedMethod
  pub type : Text
  pub named : class_named p type ≡ Some class
  pub is_in : In method class.methods
  pub key : key_in class method ≡ k
  pub stays : loose k ≡ false

module _ (p : NamedProgram) (loose : MethodKey → Bool) (sound : IsSound p loose) (tells : TellsApart p) (new : Remethod) (same : SameMethods new (staticised p loose)) where
  no_virtual : (a b c : Bool) → a ≡ true → (not a && b && c) ≡ true → ⊥
  no_virtual a b c s v = clash (not a && b && c) v (ap (λ a. not a && b && c) s)

  was_method : (t : Text) (c : NamedClass) (m : NamedMethod) → class_named p t ≡ Some c → In m c.methods → is_virtual_method (static_method p loose c m) ≡ true → WasThere p loose (key_in c (static_method p loose c m))
  was_method t c m e i v = by (loose (key_in c m)) refl
    where
      x : NamedMethod
      x = static_method p loose c m

      by : (b : Bool) → loose (key_in c m) ≡ b → WasThere p loose (key_in c x)
      by true l = absurd (no_virtual (is_static x.flags) (not (is_private x.flags)) (not (is_special x.name)) (turned_static p loose sound tells t c m e i l) v)
      by false l =
          let key : key_in c m ≡ key_in c x = sym (ap (key_in c) (stays p loose c m l)) in
          record { class = c; method = m; type = t; named = e; is_in = i; key = key; stays = ap loose (sym key) ∙ l }

  pub was_there : (t : Text) (d : NamedClass) (x : NamedMethod) → class_named (remade new (staticised p loose)) t ≡ Some d → In x d.methods → is_virtual_method x ≡ true → WasThere p loose (key_in d x)
  was_there t d x e i v =
      let a = before_map (class_remade new) (class_named (staticised p loose) t) d (sym (class_same new (staticised p loose) t) ∙ e) in
      let b = before_map (static_class p loose) (class_named p t) a.0 (sym (class_same (made_static p loose) p t) ∙ a.1.0) in
      let there : In x a.0.methods = same.to t a.0 a.1.0 x (subst (λ (c : NamedClass). In x c.methods) (sym a.1.1) i) in
      let m = from_map (static_method p loose b.0) b.0.methods x (subst (λ (c : NamedClass). In x c.methods) (sym b.1.1) there) in
      let key : key_in b.0 x ≡ key_in d x = ap (λ (c : NamedClass). key_in c x) b.1.1 ∙ ap (λ (c : NamedClass). key_in c x) a.1.1 in
      subst (WasThere p loose) key (subst (λ y. WasThere p loose (key_in b.0 y)) m.image (was_method t b.0 m.source b.1.0 m.is_in (subst (λ y. is_virtual_method y ≡ true) (sym m.image) v)))

-- ---- the outside by both tables

module _ (given target : ℕ → Option ℕ) (p q : Program) (s : Sound p) (edited : IsEdited given target p q) (planned : IsPlanned p given target) (o : Outside) where
  method_stays : (n : ℕ) → given n ≡ None → method_at q n ≡ method_at p n
  method_stays n e = method_same_at given target p q s edited planned.inside n ∙ ap (λ (o : Option ℕ). if is_some o then new_key (method_at p n) else method_at p n) e

  keys_same : (ns : List ℕ) → Each (λ n. given n ≡ None) ns → map (method_at q) ns ≡ map (method_at p) ns
  keys_same [] h = refl
  keys_same (n ∷ ns) h = ap (λ k. k ∷ map (method_at q) ns) (method_stays n h.0) ∙ ap (λ ks. method_at p n ∷ ks) (keys_same ns h.1)

  any_same : (f : MethodKey → Bool) (ns : List ℕ) → Each (λ n. given n ≡ None) ns → list_any (λ n. f (method_at q n)) ns ≡ list_any (λ n. f (method_at p n)) ns
  any_same f ns h = sym (any_map f (method_at q) ns) ∙ (ap (list_any f) (keys_same ns h) ∙ any_map f (method_at p) ns)

  -- where no kept method is made static
  pub outer_same : Each (λ n. given n ≡ None) o.methods → outer_of q o ≡ with_shut (outer_of p o) (outer_of q o).silent (outer_of q o).shut
  outer_same h = λ i. record {
    classes = fun_ext (λ t. ap (λ (f : ℕ → Text). list_any (λ n. text_eq (f n) t) o.classes) (fun_ext (type_same given target p q s edited))) i;
    methods = fun_ext (λ k. any_same (λ x. method_eq x k) o.methods h) i;
    constructed = fun_ext (λ t. any_same (is_constructor_of t) o.methods h) i;
    keepers = fun_ext (λ n. fun_ext (λ g. ap (λ ks. map (λ (k : MethodKey). k.class) (filter (λ k. same_name k.name k.signature n g) ks)) (keys_same o.methods h))) i;
    fields = fun_ext (λ k. ap (λ (f : ℕ → FieldKey). list_any (λ n. field_eq (f n) k) o.fields) (fun_ext (field_same given target p q s edited))) i;
    silent = (outer_of q o).silent;
    shut = (outer_of q o).shut;
  }

  module _ (given_so : MayAllBeStatic (named p) (outer_of p o) (tables_of p).methods (loose_in p given)) (in_tables : AreInTables (named p) (outer_of p o) (tables_of p).methods) where
    abbrev loose : MethodKey → Bool
    loose = loose_in p given

    -- a number names a method that stays where it did
    test_same : (k : MethodKey) → WasThere (named p) loose k → (n : ℕ) → method_eq (method_at q n) k ≡ method_eq (method_at p n) k
    test_same k w n = by (given n) refl
      where
        j : MethodKey
        j = method_at p n

        not_equal : (x : MethodKey) → (x ≡ k → ⊥) → method_eq x k ≡ false
        not_equal x h = by (method_eq x k) refl
          where
            by : (b : Bool) → method_eq x k ≡ b → b ≡ false
            by false e = refl
            by true e = absurd (h (method_sound x k e))

        in_table : In k (tables_of p).methods
        in_table = subst (λ x. In x (tables_of p).methods) w.key (in_tables.defined w.type w.class w.method w.named w.is_in)

        by : (x : Option ℕ) → given n ≡ x → method_eq (method_at q n) k ≡ method_eq (method_at p n) k
        by None e = ap (λ x. method_eq x k) (method_stays n e)
        by (Some z) e =
            let l : loose j ≡ true = loose_number given p s n (inside_table given target p planned n (ap is_some e)) ∙ ap is_some e in
            let old : method_eq j k ≡ false = not_equal j (λ f. clash (loose k) (sym (ap loose f) ∙ l) w.stays) in
            let moved : method_at q n ≡ new_key j = method_same_at given target p q s edited planned.inside n ∙ ap (λ (o : Option ℕ). if is_some o then new_key j else j) e in
            let fresh : same_name k.name k.signature j.name (new_signature j) ≡ false = none_in (λ t. same_name t.name t.signature j.name (new_signature j)) (tables_of p).methods ((given_so j l).new) k in_table in
            let new_not : method_eq (new_key j) k ≡ false = not_equal (new_key j) (λ f. clash (same_name k.name k.signature j.name (new_signature j))
            (ap (λ (x : MethodKey). same_name x.name x.signature j.name (new_signature j)) (sym f) ∙ name_same j.name (new_signature j)) fresh) in
            ap (λ x. method_eq x k) moved ∙ (new_not ∙ sym old)

    any_tests : (k : MethodKey) → WasThere (named p) loose k → (ns : List ℕ) → methods_in q ns k ≡ methods_in p ns k
    any_tests k w ns = ap (λ (f : ℕ → Bool). list_any f ns) (fun_ext (test_same k w))

    pub shuts_alike : (twice : (class : ℕ) → IsTwice p class → ⊥) → IsSound (named p) loose → TellsApart (named p) → ShutsAlike (named q) (outer_of p o).shut (outer_of q o).shut
    shuts_alike twice sound tells t c m e i v =
        let now = named_now given target p q s twice edited planned in
        any_tests (key_in c m) (was_there (named p) loose sound tells (new given target p q s twice edited planned) (same_methods given target p q s twice edited planned) t c m
        (sym (ap (λ (x : NamedProgram). class_named x t) now) ∙ e) (in_from c.methods m i) v) o.shut
