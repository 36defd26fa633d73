-- What the bodies of a program name is used, and has numbers of the tables.
use Rattle.std.proofs.Common.{◌≡◌, ℕ, zero, suc, ◌<◌, true, List, [], ◌∷◌, ◌++◌, length, Some, subst, arith, ltb-true}
use Rattle.std.specs.Prelude.{◌&&◌, Contains, slice_get}
use Rattle.std.specs.List.{AllByRecursion, flat_map, list_all}
use Rattle.lemmas.proofs.Bools.{and_left, and_right}
use Rattle.lemmas.proofs.Lists.{all_in}
use Rattle.lemmas.proofs.Options.{none_some, some_same}
use Rattle.insn_set.specs.Spelling.{is_encodable}
use Rattle.insn_set.specs.declared.form.Insn.TheVariants as insn
use Rattle.program_model.specs.BodyRules.{body_fits}
use Rattle.program_model.specs.Neighbours.{neighbours}
use Rattle.program_model.specs.OperandRules.{registers_fit, numbers_fit}
use Rattle.program_model.specs.RegionRules.{may_begin, catches, handler_fits, rest_fits, region_fits, are_apart, regions_fit}
use Rattle.program_model.specs.Texts.{has_type}
use Rattle.program_model.specs.declared.body.Body.{Body}
use Rattle.program_model.specs.declared.body.Handler.{Handler}
use Rattle.program_model.specs.declared.body.Region.{Region}
use Rattle.program_model.specs.declared.program.Class.{Class}
use Rattle.program_model.specs.declared.program.Method.{Method}
use Rattle.program_model.specs.declared.program.Program.{Program}
use Rattle.dex_pools.specs.declared.interner.Interner.{Interner}
use Rattle.dex_pools.specs.declared.used.Named.{Named}
use Rattle.dex_pools.specs.Interned.{IsInterned}
use Rattle.dex_pools.specs.Numbering.{used_in}
use Rattle.dex_pools.specs.Used.{kind_names, source_names, marks_names, insn_names, handler_names, region_names, body_names, code_names, field_names, method_names, class_names}
use Rattle.program_model.specs.TableRules.{tables_fit}
use Rattle.write_laws.specs.Used.{IsUsed}
use Rattle.write_laws.proofs.Marking.{all_left, all_right}
use Rattle.write_laws.proofs.Closed.{names_used}
use Rattle.thin_laws.proofs.Rules.{operands_at, all_regions_fit}
use Rattle.layout_law.specs.Lower.{NumbersFall}
use Rattle.layout_law.specs.Ascending.{TextsAscend}
use Rattle.layout_law.proofs.Falling.{string_falls, type_falls}

module _ (P : Named → Type 0) where
  -- what all items name, each does
  named_at : {X : Type 0} (names : X → List Named) (xs : List X) → AllByRecursion P (flat_map names xs) → (n : ℕ) (x : X) → slice_get xs n ≡ Some x → AllByRecursion P (names x)
  named_at names [] h n x e = none_some x e
  named_at names (y ∷ ys) h zero x e = subst (λ z. AllByRecursion P (names z)) (some_same y x e) (all_left P (names y) (flat_map names ys) h)
  named_at names (y ∷ ys) h (suc n) x e = named_at names ys (all_right P (names y) (flat_map names ys) h) n x e

  named_in : {X : Type 0} (names : X → List Named) (xs : List X) → AllByRecursion P (flat_map names xs) → (x : X) → Contains xs x → AllByRecursion P (names x)
  named_in names [] h x (k, l, e) = let f : ⊥ = omega (arith, l) in absurd f
  named_in names (y ∷ ys) h x (zero, l, e) = subst (λ z. AllByRecursion P (names z)) e (all_left P (names y) (flat_map names ys) h)
  named_in names (y ∷ ys) h x (suc k, l, e) = named_in names ys (all_right P (names y) (flat_map names ys) h) x (k, omega (arith, l), e)

  insns_of : (b : Body) → AllByRecursion P (body_names b) → AllByRecursion P (flat_map insn_names b.insns)
  unfolding body_names
  insns_of b h = all_left P (flat_map insn_names b.insns) (flat_map region_names b.regions) h

  regions_of : (b : Body) → AllByRecursion P (body_names b) → AllByRecursion P (flat_map region_names b.regions)
  unfolding body_names
  regions_of b h = all_right P (flat_map insn_names b.insns) (flat_map region_names b.regions) h

  code_of : (m : Method) → AllByRecursion P (method_names m) → AllByRecursion P (code_names m.body)
  unfolding method_names
  code_of m h = all_right P (flat_map marks_names m.parameter_marks) (code_names m.body) (all_right P (marks_names m.marks) (flat_map marks_names m.parameter_marks ++ code_names m.body) h.1)

  methods_of : (c : Class) → AllByRecursion P (class_names c) → AllByRecursion P (flat_map method_names c.methods)
  unfolding class_names
  methods_of c h =
      let methods : List Named = flat_map method_names c.methods in
      let fields : List Named = flat_map field_names c.fields in
      let marks : List Named = marks_names c.marks in
      let source : List Named = source_names c.source in
      let kinds : List Named = flat_map kind_names c.interfaces in
      let a = all_right P kinds (source ++ (marks ++ (fields ++ methods))) h.1.1 in
      let b = all_right P source (marks ++ (fields ++ methods)) a in
      all_right P fields methods (all_right P marks (fields ++ methods) b)

-- what the code of a method of the program names
pub body_used : (p : Program) (c : Class) (m : Method) (b : Body) → Contains p.classes c → Contains c.methods m → m.body ≡ Some b → AllByRecursion (IsUsed (used_in p)) (body_names b)
body_used p c m b i j e =
    let one = named_in (IsUsed (used_in p)) class_names p.classes (names_used p) c i in
    let two = named_in (IsUsed (used_in p)) method_names c.methods (methods_of (IsUsed (used_in p)) c one) m j in
    subst (λ o. AllByRecursion (IsUsed (used_in p)) (code_names o)) e (code_of (IsUsed (used_in p)) m two)

module _ (p : Program) (b : Body) (fits : body_fits p b ≡ true) where
  string_there : (n to string : ℕ) → slice_get b.insns n ≡ Some (insn.ConstString to string) → string < length p.strings
  unfolding numbers_fit
  string_there n to string e =
      let o = operands_at p b fits n (insn.ConstString to string) e in
      ltb-true string (length p.strings)
      (and_right (registers_fit (insn.ConstString to string) b.registers) (numbers_fit (insn.ConstString to string) p) (and_right (is_encodable (insn.ConstString to string)) (registers_fit (insn.ConstString to string) b.registers && numbers_fit (insn.ConstString to string) p) o))

  regions_there : list_all (region_fits p b.insns) b.regions ≡ true
  unfolding regions_fit
  regions_there = and_left (list_all (region_fits p b.insns) b.regions) (list_all are_apart (neighbours b.regions)) (all_regions_fit p b fits)

  type_there : (q : Region) (h : Handler) → Contains b.regions q → Contains q.handlers h → h.kind < length p.types
  type_there q h i j =
      let r = all_in (region_fits p b.insns) b.regions q i regions_there in
      let s = and_right (catches q) (list_all (handler_fits p b.insns) q.handlers && rest_fits b.insns q.rest) (and_right _ (catches q && (list_all (handler_fits p b.insns) q.handlers && rest_fits b.insns q.rest)) r) in
      let t = all_in (handler_fits p b.insns) q.handlers h j (and_left (list_all (handler_fits p b.insns) q.handlers) (rest_fits b.insns q.rest) s) in
      ltb-true h.kind (length p.types) (and_left (has_type p h.kind) (may_begin (slice_get b.insns h.position)) t)

-- no number of a body needs more room
pub numbers_fall : (p : Program) (i : Interner) → tables_fit p ≡ true → TextsAscend p → IsInterned p i → (b : Body) → body_fits p b ≡ true → AllByRecursion (IsUsed (used_in p)) (body_names b) → NumbersFall i.numbers b
numbers_fall p i tables texts h b fits used = record {
  strings = λ n to string e. string_falls p i tables texts h string (string_there p b fits n to string e) (named_at (IsUsed (used_in p)) insn_names b.insns (insns_of (IsUsed (used_in p)) b used) n (insn.ConstString to string) e).0;
  types = λ q g c d. type_falls p i tables texts h g.kind (type_there p b fits q g c d) (named_in (IsUsed (used_in p)) handler_names q.handlers (named_in (IsUsed (used_in p)) region_names b.regions (regions_of (IsUsed (used_in p)) b used) q c) g d).0;
}
