-- A program whose code is thinned by tidy fates is well-formed where the program is.
use Rattle.std.proofs.Common.{◌≡◌, ℕ, suc, ◌+◌, ◌*◌, ◌≤◌, Bool, true, false, List, [], ◌∷◌, length, refl, ap, ◌∙◌, subst, arith}
use Rattle.std.specs.Prelude.{◌&&◌, not, Option, Some, None, map, filter, sum_by, slice_get, Contains}
use Rattle.std.specs.List.{list_all}
use Rattle.std.specs.Option.{option_map}
use Rattle.std.proofs.Math.Nat.{mul-le-mul_left}
use Rattle.std.proofs.lemmas.List.Sums.{sum_by-cons}
use Rattle.lemmas.proofs.Bools.{and_right}
use Rattle.lemmas.proofs.Lists.{all_in, map_long}
use Rattle.lemmas.proofs.Numbers.{itself}
use mathlib.Core.Bool.{cond}
use Rattle.insn_set.specs.declared.form.Insn.{Insn}
use Rattle.insn_set.specs.declared.form.Insn.TheVariants as insn
use Rattle.program_model.specs.Neighbours.{neighbours}
use Rattle.program_model.specs.Distinct.{own_method_key, all_differ}
use Rattle.program_model.specs.BodyRules.{body_fits}
use Rattle.program_model.specs.LineRules.{lines_fit}
use Rattle.program_model.specs.ValueRules.{marks_fit}
use Rattle.program_model.specs.MemberRules.{is_class_number, class_of_method, lacks_code, frame_fits, code_fits, method_fits, methods_in_order, methods_fit, fields_fit, types_of_class_fit, source_fits, class_fits}
use Rattle.program_model.specs.Cells.{entries_of, body_cells}
use Rattle.program_model.specs.Items.{rest_items, region_items}
use Rattle.program_model.specs.ProgramRules.{is_well_formed}
use Rattle.program_model.proofs.Formed.{formed}
use Rattle.program_model.specs.declared.body.Body.{Body}
use Rattle.program_model.specs.declared.body.Region.{Region}
use Rattle.program_model.specs.declared.program.Method.{Method}
use Rattle.program_model.specs.declared.program.Class.{Class}
use Rattle.program_model.specs.declared.program.Program.{Program}
use Rattle.pass_defs.specs.Thinned.{Fate, Stays, Empties, Goes, place, insn_retargeted, insns_left, handler_moved, region_moved, region_has_room, body_thinned}
use Rattle.program_laws.proofs.ChangedLists.{and_left}
use Rattle.program_laws.specs.Others.{Pairwise}
use Rattle.thin_laws.specs.Recoded.{Recodes, RecodedMethod, Untouched as StillUntouched, Recoded, RecodedClass, RecodedProgram}
use Rattle.thin_laws.specs.Tidy.{IsTidy}
use Rattle.thin_laws.specs.Tidied.{TidiedMethod, Untouched, Tidied, TidiedClass, TidiedProgram}
use Rattle.thin_laws.proofs.Fits.{thinned_fits}

-- ---- room

longer : (a b : ℕ) → a ≤ b → suc a ≤ suc b
longer a b l = omega arith

higher : (a b : ℕ) → a ≤ b → a ≤ suc b
higher a b l = omega arith

no_more : (a b : ℕ) → a ≡ b → a ≤ b
no_more a b e = omega (arith, e)

together : (a b c d : ℕ) → a ≤ b → c ≤ d → a + c ≤ b + d
together a b c d l m = omega arith

behind : (a b c : ℕ) → a ≤ b → a ≤ c + b
behind a b c l = omega arith

module _ (at : ℕ → ℕ) where
  entries_same : (i : Insn) → entries_of (insn_retargeted at i) ≡ entries_of i
  entries_same (insn.PackedSwitch on first targets) = map_long at targets
  entries_same (insn.SparseSwitch on keys targets) = map_long at targets
  entries_same (insn.Goto target) = refl
  entries_same i = refl

  length_falls : (fs : List Fate) (xs : List Insn) → length (insns_left at fs xs) ≤ length xs
  length_falls fs [] = itself 0
  length_falls [] (x ∷ xs) = nothing (length (x ∷ xs))
    where
      nothing : (n : ℕ) → 0 ≤ n
      nothing n = omega arith
  length_falls (Stays ∷ fs) (x ∷ xs) = longer (length (insns_left at fs xs)) (length xs) (length_falls fs xs)
  length_falls (Empties ∷ fs) (x ∷ xs) = longer (length (insns_left at fs xs)) (length xs) (length_falls fs xs)
  length_falls (Goes ∷ fs) (x ∷ xs) = higher (length (insns_left at fs xs)) (length xs) (length_falls fs xs)

  nothing_more : (n : ℕ) → 0 ≤ n
  nothing_more n = omega arith

  sum_with : (x y : Insn) (xs ys : List Insn) → entries_of y ≤ entries_of x → sum_by entries_of ys ≤ sum_by entries_of xs → sum_by entries_of (y ∷ ys) ≤ sum_by entries_of (x ∷ xs)
  sum_with x y xs ys l m = omega (arith, l, m, sum_by-cons entries_of y ys, sum_by-cons entries_of x xs)

  sum_without : (x : Insn) (xs ys : List Insn) → sum_by entries_of ys ≤ sum_by entries_of xs → sum_by entries_of ys ≤ sum_by entries_of (x ∷ xs)
  sum_without x xs ys m = omega (arith, m, sum_by-cons entries_of x xs)

  entries_fall : (fs : List Fate) (xs : List Insn) → sum_by entries_of (insns_left at fs xs) ≤ sum_by entries_of xs
  entries_fall fs [] = itself 0
  entries_fall [] (x ∷ xs) = nothing_more (sum_by entries_of (x ∷ xs))
  entries_fall (Stays ∷ fs) (x ∷ xs) = sum_with x (insn_retargeted at x) xs (insns_left at fs xs) (no_more (entries_of (insn_retargeted at x)) (entries_of x) (entries_same x)) (entries_fall fs xs)
  entries_fall (Empties ∷ fs) (x ∷ xs) = sum_with x insn.Nop xs (insns_left at fs xs) (nothing_more (entries_of x)) (entries_fall fs xs)
  entries_fall (Goes ∷ fs) (x ∷ xs) = sum_without x xs (insns_left at fs xs) (entries_fall fs xs)

  rest_same : (o : Option ℕ) → rest_items (option_map at o) ≡ rest_items o
  rest_same None = refl
  rest_same (Some n) = refl

  region_same : (r : Region) → region_items (region_moved at r) ≡ region_items r
  region_same r = ap (λ n. n + rest_items (option_map at r.rest)) (map_long (handler_moved at) r.handlers) ∙ ap (λ n. length r.handlers + n) (rest_same r.rest)

  regions_fall : (end : ℕ) (rs : List Region) → sum_by region_items (filter (region_has_room end) (map (region_moved at) rs)) ≤ sum_by region_items rs
  regions_fall end [] = itself 0
  regions_fall end (r ∷ rs) = by (region_has_room end (region_moved at r)) (regions_fall end rs)
    where
      with_one : (x y : Region) (xs ys : List Region) → region_items y ≡ region_items x → sum_by region_items ys ≤ sum_by region_items xs → sum_by region_items (y ∷ ys) ≤ sum_by region_items (x ∷ xs)
      with_one x y xs ys l m = omega (arith, l, m, sum_by-cons region_items y ys, sum_by-cons region_items x xs)

      without : (x : Region) (xs ys : List Region) → sum_by region_items ys ≤ sum_by region_items xs → sum_by region_items ys ≤ sum_by region_items (x ∷ xs)
      without x xs ys m = omega (arith, m, sum_by-cons region_items x xs)

      by : (c : Bool) → sum_by region_items (filter (region_has_room end) (map (region_moved at) rs)) ≤ sum_by region_items rs
          → sum_by region_items (cond c (region_moved at r ∷ filter (region_has_room end) (map (region_moved at) rs)) (filter (region_has_room end) (map (region_moved at) rs))) ≤ sum_by region_items (r ∷ rs)
      by true k = with_one r (region_moved at r) rs (filter (region_has_room end) (map (region_moved at) rs)) (region_same r) k
      by false k = without r rs (filter (region_has_room end) (map (region_moved at) rs)) k

cells_fall : (fs : List Fate) (b : Body) → body_cells (body_thinned fs b) ≤ body_cells b
cells_fall fs b = together ((b.registers + 1) * length (insns_left (place fs) fs b.insns)) ((b.registers + 1) * length b.insns) (sum_by entries_of (insns_left (place fs) fs b.insns)) (sum_by entries_of b.insns)
    (mul-le-mul_left (b.registers + 1) (length_falls (place fs) fs b.insns)) (entries_fall (place fs) fs b.insns)

-- ---- methods, classes and programs

-- what a test of each item of one list gives for a relation of both
pairs_given : {A : Type 0} (R S : A → A → Type 0) (t : A → Bool) → ((x y : A) → t x ≡ true → R x y → S x y) → (xs ys : List A) → list_all t xs ≡ true → Pairwise R xs ys → Pairwise S xs ys
pairs_given R S t h [] [] e r = tt
pairs_given R S t h [] (y ∷ ys) e r = absurd r
pairs_given R S t h (x ∷ xs) [] e r = absurd r
pairs_given R S t h (x ∷ xs) (y ∷ ys) e r = (h x y (and_left (t x) (list_all t xs) e) r.0, pairs_given R S t h xs ys (and_right (t x) (list_all t xs) e) r.1)

module _ (p : Program) where
  code_of : (class : ℕ) (m : Method) (b : Body) → m.body ≡ Some b → method_fits p class m ≡ true → code_fits p m (Some b) ≡ true
  unfolding method_fits
  code_of class m b e h = subst (λ o. code_fits p m o ≡ true) e (and_right (is_class_number (class_of_method (slice_get p.methods m.name)) class) (code_fits p m m.body)
      (and_left (is_class_number (class_of_method (slice_get p.methods m.name)) class && code_fits p m m.body) (marks_fit p m.marks && list_all (marks_fit p) m.parameter_marks) h))

  recodes : (m : Method) (b : Body) (marks : ℕ → Bool) (fs : List Fate) (lines : List ℕ) → IsTidy marks fs b → lines_fit (length (body_thinned fs b).insns) lines ≡ true → code_fits p m (Some b) ≡ true → Recodes p m b (body_thinned fs b) lines
  unfolding frame_fits
  recodes m b marks fs lines tidy l h =
      let rest = and_right (not (lacks_code m.flags)) (frame_fits p m b && (body_fits p b && lines_fit (length b.insns) m.lines)) h in
      let fits = and_left (body_fits p b) (lines_fit (length b.insns) m.lines) (and_right (frame_fits p m b) (body_fits p b && lines_fit (length b.insns) m.lines) rest) in
      record {
        frame = and_left (frame_fits p m b) (body_fits p b && lines_fit (length b.insns) m.lines) rest;
        body = thinned_fits p marks fs b fits tidy;
        lined = l;
        cells = cells_fall fs b;
        items = regions_fall (place fs) (length (insns_left (place fs) fs b.insns)) b.regions;
      }

  method_recoded : (class : ℕ) (m n : Method) → method_fits p class m ≡ true → TidiedMethod m n → RecodedMethod p m n
  method_recoded class _ _ h (Untouched m) = StillUntouched m
  method_recoded class _ _ h (Tidied m b marks fs lines e tidy l) = Recoded m b (body_thinned fs b) lines e (recodes m b marks fs lines tidy l (code_of class m b e h))

  class_methods : (c : Class) → class_fits p c ≡ true → list_all (method_fits p c.name) c.methods ≡ true
  unfolding class_fits methods_fit
  class_methods c h = and_left (list_all (method_fits p c.name) c.methods) (list_all (methods_in_order p) (neighbours c.methods) && all_differ own_method_key c.methods)
      (and_right (fields_fit p c.name c.fields) (methods_fit p c.name c.methods)
      (and_right (types_of_class_fit p c && (source_fits p c.source && marks_fit p c.marks)) (fields_fit p c.name c.fields && methods_fit p c.name c.methods) h))

  class_recoded : (c d : Class) → class_fits p c ≡ true → TidiedClass c d → RecodedClass p c d
  class_recoded c d h t = record { same = t.same; methods = pairs_given TidiedMethod (RecodedMethod p) (method_fits p c.name) (method_recoded c.name) c.methods d.methods (class_methods c h) t.methods }

  all_classes : is_well_formed p ≡ true → list_all (class_fits p) p.classes ≡ true
  all_classes h = (formed p h).classes

  -- the rules of a method's code
  pub code_rules : (c : Class) (m : Method) (b : Body) → is_well_formed p ≡ true → Contains p.classes c → Contains c.methods m → m.body ≡ Some b → (body_fits p b ≡ true) × (lines_fit (length b.insns) m.lines ≡ true)
  code_rules c m b h i j e =
      let class = all_in (class_fits p) p.classes c i (all_classes h) in
      let code = code_of c.name m b e (all_in (method_fits p c.name) c.methods m j (class_methods c class)) in
      let rest = and_right (frame_fits p m b) (body_fits p b && lines_fit (length b.insns) m.lines) (and_right (not (lacks_code m.flags)) (frame_fits p m b && (body_fits p b && lines_fit (length b.insns) m.lines)) code) in
      (and_left (body_fits p b) (lines_fit (length b.insns) m.lines) rest, and_right (body_fits p b) (lines_fit (length b.insns) m.lines) rest)

  pub tidied_recoded : (q : Program) → is_well_formed p ≡ true → TidiedProgram p q → RecodedProgram p q
  tidied_recoded q h t = record { same = t.same; classes = pairs_given TidiedClass (RecodedClass p) (class_fits p) class_recoded p.classes q.classes (all_classes h) t.classes }
