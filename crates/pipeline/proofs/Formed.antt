-- A well-formed program whose silent calls are nops is well-formed.
use Rattle.std.proofs.Common.{◌≡◌, ℕ, zero, suc, ◌+◌, ◌-◌, ◌≤◌, Bool, true, false, true≢false, List, [], ◌∷◌, ◌++◌, length, map, refl, sym, ap, ◌∙◌, arith, leb-true, le-leb}
use Rattle.std.specs.Cmp.Lexicographic.{pointwise}
use Rattle.std.specs.Prelude.{nat_eq, ◌&&◌, ◌||◌, not, if◌then◌else◌, Option, Some, None, slice_get, slice_index_or, sum_by, nat_lt, nat_le}
use Rattle.std.specs.List.{list_all, list_any, enumerate_from}
use Rattle.std.specs.Option.{option_map}
use Rattle.std.proofs.lemmas.Bool.{and_parts, and_from}
use Rattle.std.proofs.lemmas.List.{length-map}
use Rattle.std.proofs.lemmas.List.Sums.{sum_by-cons}
use Rattle.insn_set.specs.Flow.{goes_on, targets_of}
use Rattle.insn_set.specs.Spelling.{is_encodable}
use Rattle.insn_set.specs.declared.ops.InvokeKind.TheVariants as call
use Rattle.insn_set.specs.declared.form.Insn.{Insn}
use Rattle.insn_set.specs.declared.form.Insn.TheVariants as form
use Rattle.program_model.specs.declared.body.Handler.{Handler}
use Rattle.program_model.specs.declared.body.Region.{Region}
use Rattle.program_model.specs.declared.body.Body.{Body}
use Rattle.program_model.specs.declared.program.Method.{Method}
use Rattle.program_model.specs.declared.program.Class.{Class}
use Rattle.program_model.specs.declared.program.Program.{Program}
use Rattle.program_model.specs.Neighbours.{neighbours}
use Rattle.program_model.specs.Distinct.{own_method_key, same_entry, differ_from, all_differ}
use Rattle.program_model.specs.Cells.{entries_of, body_cells, method_cells, class_cells, cells_of}
use Rattle.program_model.specs.Items.{method_items, class_items, items_of}
use Rattle.program_model.specs.OperandRules.{registers_fit, numbers_fit}
use Rattle.program_model.specs.RegionRules.{may_begin, handler_fits, rest_fits, catches, region_fits, are_apart, regions_fit}
use Rattle.program_model.specs.BodyRules.{ends, may_follow, follows, may_enter, targets_fit, leaves, is_caught, insn_fits, body_fits}
use Rattle.program_model.specs.LineRules.{lines_fit}
use Rattle.program_model.specs.ValueRules.{marks_fit}
use Rattle.program_model.specs.Texts.{has_type}
use Rattle.program_model.specs.MemberRules.{is_class_number, class_of_method, lacks_code, is_direct, frame_fits, code_fits, method_fits, methods_in_order, methods_fit, fields_fit, types_of_class_fit, source_fits, class_fits}
use Rattle.program_model.specs.ProgramRules.{is_well_formed}
use Rattle.program_model.proofs.Formed.{formed, well_formed, drawn_all, stand_kept}
use Rattle.reach.proofs.Tables.{tables_kept, class_same}
use Rattle.pipeline.specs.Silence.{calls, takes_result, begins_with_result, silenced_insn, silenced_insns, silenced_body, silenced_method, silenced_class, silenced}

-- ---- lists

all_more : {A : Type 0} (f g : A → Bool) → ((x : A) → f x ≡ true → g x ≡ true) → (xs : List A) → list_all f xs ≡ true → list_all g xs ≡ true
all_more f g h [] e = refl
all_more f g h (x ∷ xs) e = let both = and_parts (f x) (list_all f xs) e in and_from (g x) (list_all g xs) (h x both.0) (all_more f g h xs both.1)

-- a test that is as true of the new entries
module _ {A : Type 0} (f : A → A) where
  all_map : (t u : A → Bool) → ((x : A) → t x ≡ true → u (f x) ≡ true) → (xs : List A) → list_all t xs ≡ true → list_all u (map f xs) ≡ true
  all_map t u h [] e = refl
  all_map t u h (x ∷ xs) e = let both = and_parts (t x) (list_all t xs) e in and_from (u (f x)) (list_all u (map f xs)) (h x both.0) (all_map t u h xs both.1)

  order_map : (r : A × A → Bool) → ((a b : A) → r (f a, f b) ≡ r (a, b)) → (xs : List A) → list_all r (neighbours (map f xs)) ≡ list_all r (neighbours xs)
  order_map r h [] = refl
  order_map r h (x ∷ []) = refl
  order_map r h (x ∷ (y ∷ ys)) = ap (λ b. b && list_all r (neighbours (map f (y ∷ ys)))) (h x y) ∙ ap (λ b. r (x, y) && b) (order_map r h (y ∷ ys))

  sum_map : (g : A → ℕ) → ((x : A) → g (f x) ≤ g x) → (xs : List A) → sum_by g (map f xs) ≤ sum_by g xs
  sum_map g h [] = omega arith
  sum_map g h (x ∷ xs) = omega (arith, h x, sum_map g h xs, sum_by-cons g (f x) (map f xs), sum_by-cons g x xs)

  module _ (key : A → List ℕ) (same : (x : A) → key (f x) ≡ key x) where
    any_same : (x : A) (xs : List A) → list_any (λ y. same_entry key y (f x)) (map f xs) ≡ list_any (λ y. same_entry key y x) xs
    any_same x [] = refl
    any_same x (y ∷ ys) =
        ap (λ b. b || list_any (λ y. same_entry key y (f x)) (map f ys)) (entry_same y)
        ∙ ap (λ b. same_entry key y x || b) (any_same x ys)
      where
        entry_same : (y : A) → same_entry key (f y) (f x) ≡ same_entry key y x
        entry_same y = ap (λ k. pointwise nat_eq k (key (f x))) (same y) ∙ ap (λ k. pointwise nat_eq (key y) k) (same x)

    map_behind : (xs : List A) (x : A) → map f xs ++ f x ∷ [] ≡ map f (xs ++ x ∷ [])
    map_behind [] x = refl
    map_behind (y ∷ ys) x = ap (λ l. f y ∷ l) (map_behind ys x)

    differ_map : (xs bs : List A) → differ_from key (map f bs) (map f xs) ≡ differ_from key bs xs
    differ_map [] bs = refl
    differ_map (x ∷ xs) bs =
        ap (λ b. if b then false else differ_from key (map f bs ++ f x ∷ []) (map f xs)) (any_same x bs)
        ∙ ap (λ l. if list_any (λ y. same_entry key y x) bs then false else differ_from key l (map f xs)) (map_behind bs x)
        ∙ ap (λ r. if list_any (λ y. same_entry key y x) bs then false else r) (differ_map xs (bs ++ x ∷ []))

-- ---- code

module _ (s : ℕ → Bool) where
  -- a call goes on
  goes_behind : (i : Insn) → calls s i ≡ true → not (goes_on i) ≡ true → ⊥
  goes_behind (form.Invoke call.Static m a) c h = true≢false (sym h)
  goes_behind i c h = true≢false (sym c)

  -- what is true of an instruction and of the nop that takes its place
  insn_kept : (t : Insn → Bool) (i : Insn) (rest : List Insn) → (calls s i ≡ true → t form.Nop ≡ true) → t i ≡ true → t (silenced_insn s i rest) ≡ true
  insn_kept t i rest nop same = by (calls s i) (not (begins_with_result rest)) nop
    where
      by : (a b : Bool) → (a ≡ true → t form.Nop ≡ true) → t (if a && b then form.Nop else i) ≡ true
      by true true nop = nop refl
      by true false nop = same
      by false b nop = same

  at_kept : (t : Option Insn → Bool) → ((i : Insn) → calls s i ≡ true → t (Some i) ≡ true → t (Some form.Nop) ≡ true) → (is : List Insn) (n : ℕ) → t (slice_get is n) ≡ true → t (slice_get (silenced_insns s is) n) ≡ true
  at_kept t nop [] n h = h
  at_kept t nop (i ∷ is) zero h = insn_kept (λ x. t (Some x)) i is (λ c. nop i c h) h
  at_kept t nop (i ∷ is) (suc n) h = at_kept t nop is n h

  length_kept : (is : List Insn) → length (silenced_insns s is) ≡ length is
  length_kept [] = refl
  length_kept (i ∷ is) = ap suc (length_kept is)

  begins : (is : List Insn) (n : ℕ) → may_begin (slice_get is n) ≡ true → may_begin (slice_get (silenced_insns s is) n) ≡ true
  begins is n h = at_kept may_begin (λ i c k. refl) is n h

  enters : (is : List Insn) (n : ℕ) → may_enter (slice_get is n) ≡ true → may_enter (slice_get (silenced_insns s is) n) ≡ true
  enters is n h = at_kept may_enter (λ i c k. refl) is n h

  ended : (is : List Insn) (n : ℕ) → ends (slice_get is n) ≡ true → ends (slice_get (silenced_insns s is) n) ≡ true
  ended is n h = at_kept ends (λ i c k. absurd (goes_behind i c k)) is n h

  -- what may stand behind a call whose result isn't taken may stand behind a nop
  nop_before : (i j : Insn) → calls s i ≡ true → not (takes_result j) ≡ true → may_follow i j ≡ true → may_follow form.Nop j ≡ true
  nop_before i (form.MoveResult slot to) c r h = absurd (true≢false (sym r))
  nop_before i (form.MoveException to) c r h = absurd (goes_behind i c h)
  nop_before i j c r h = refl

  pair_kept : (i j : Insn) (rest : List Insn) → may_follow i j ≡ true → may_follow (silenced_insn s i (j ∷ rest)) (silenced_insn s j rest) ≡ true
  pair_kept i j rest h = insn_kept (may_follow (silenced_insn s i (j ∷ rest))) j rest (λ c. refl) (before (calls s i) (not (takes_result j)) (λ c r. nop_before i j c r h))
    where
      before : (a b : Bool) → (a ≡ true → b ≡ true → may_follow form.Nop j ≡ true) → may_follow (if a && b then form.Nop else i) j ≡ true
      before true true nop = nop refl refl
      before true false nop = h
      before false b nop = h

  pairs_kept : (is : List Insn) → list_all follows (neighbours is) ≡ true → list_all follows (neighbours (silenced_insns s is)) ≡ true
  pairs_kept [] h = refl
  pairs_kept (i ∷ []) h = refl
  pairs_kept (i ∷ (j ∷ rest)) h =
      let both = and_parts (may_follow i j) (list_all follows (neighbours (j ∷ rest))) h in
      and_from _ _ (pair_kept i j rest both.0) (pairs_kept (j ∷ rest) both.1)

  module _ (p : Program) (b : Body) where
    nop_fits : (n : ℕ) → insn_fits p (silenced_body s b) (n, form.Nop) ≡ true
    unfolding insn_fits registers_fit numbers_fit
    nop_fits n = refl

    insn_fits_still : (n : ℕ) (i : Insn) → insn_fits p b (n, i) ≡ true → insn_fits p (silenced_body s b) (n, i) ≡ true
    unfolding insn_fits
    insn_fits_still n i h =
        let all = and_parts (is_encodable i && (registers_fit i b.registers && numbers_fit i p)) (targets_fit b.insns i && (leaves n i && is_caught b.regions n i)) h in
        let flow = and_parts (targets_fit b.insns i) (leaves n i && is_caught b.regions n i) all.1 in
        and_from _ _ all.0 (and_from _ _ (all_more (λ t. may_enter (slice_get b.insns t)) (λ t. may_enter (slice_get (silenced_insns s b.insns) t)) (enters b.insns) (targets_of i) flow.0) flow.1)

    insns_kept : (is : List Insn) (n : ℕ) → list_all (insn_fits p b) (enumerate_from n is) ≡ true → list_all (insn_fits p (silenced_body s b)) (enumerate_from n (silenced_insns s is)) ≡ true
    insns_kept [] n h = refl
    insns_kept (i ∷ is) n h =
        let both = and_parts (insn_fits p b (n, i)) (list_all (insn_fits p b) (enumerate_from (n + 1) is)) h in
        and_from _ _ (insn_kept (λ x. insn_fits p (silenced_body s b) (n, x)) i is (λ c. nop_fits n) (insn_fits_still n i both.0)) (insns_kept is (n + 1) both.1)

    rest_kept : (o : Option ℕ) → rest_fits b.insns o ≡ true → rest_fits (silenced_insns s b.insns) o ≡ true
    rest_kept None h = refl
    rest_kept (Some n) h = begins b.insns n h

    handler_kept : (x : Handler) → handler_fits p b.insns x ≡ true → handler_fits p (silenced_insns s b.insns) x ≡ true
    handler_kept x h = let both = and_parts (has_type p x.kind) (may_begin (slice_get b.insns x.position)) h in and_from _ _ both.0 (begins b.insns x.position both.1)

    region_kept : (r : Region) → region_fits p b.insns r ≡ true → region_fits p (silenced_insns s b.insns) r ≡ true
    region_kept r h =
        let all = and_parts (nat_lt r.first r.end && nat_le r.end (length b.insns)) (catches r && (list_all (handler_fits p b.insns) r.handlers && rest_fits b.insns r.rest)) h in
        let more = and_parts (catches r) (list_all (handler_fits p b.insns) r.handlers && rest_fits b.insns r.rest) all.1 in
        let two = and_parts (list_all (handler_fits p b.insns) r.handlers) (rest_fits b.insns r.rest) more.1 in
        and_from _ _ (ap (λ n. nat_lt r.first r.end && nat_le r.end n) (length_kept b.insns) ∙ all.0)
        (and_from _ _ more.0 (and_from _ _ (all_more (handler_fits p b.insns) (handler_fits p (silenced_insns s b.insns)) handler_kept r.handlers two.0) (rest_kept r.rest two.1)))

    regions_kept : regions_fit p b.insns b.regions ≡ true → regions_fit p (silenced_insns s b.insns) b.regions ≡ true
    unfolding regions_fit
    regions_kept h =
        let both = and_parts (list_all (region_fits p b.insns) b.regions) (list_all are_apart (neighbours b.regions)) h in
        and_from _ _ (all_more (region_fits p b.insns) (region_fits p (silenced_insns s b.insns)) region_kept b.regions both.0) both.1

    body_kept : body_fits p b ≡ true → body_fits p (silenced_body s b) ≡ true
    unfolding body_fits
    body_kept h =
        let all = and_parts (may_begin (slice_get b.insns 0) && ends (slice_get b.insns (length b.insns - 1))) (list_all follows (neighbours b.insns) && (list_all (insn_fits p b) (enumerate_from 0 b.insns) && regions_fit p b.insns b.regions)) h in
        let edges = and_parts (may_begin (slice_get b.insns 0)) (ends (slice_get b.insns (length b.insns - 1))) all.0 in
        let more = and_parts (list_all follows (neighbours b.insns)) (list_all (insn_fits p b) (enumerate_from 0 b.insns) && regions_fit p b.insns b.regions) all.1 in
        let two = and_parts (list_all (insn_fits p b) (enumerate_from 0 b.insns)) (regions_fit p b.insns b.regions) more.1 in
        and_from _ _ (and_from _ _ (begins b.insns 0 edges.0) (ap (λ n. ends (slice_get (silenced_insns s b.insns) (n - 1))) (length_kept b.insns) ∙ ended b.insns (length b.insns - 1) edges.1))
        (and_from _ _ (pairs_kept b.insns more.0) (and_from _ _ (insns_kept b.insns 0 two.0) (regions_kept two.1)))

  -- ---- cells

  entries_fall : (i : Insn) (rest : List Insn) → entries_of (silenced_insn s i rest) ≤ entries_of i
  entries_fall i rest = by (calls s i && not (begins_with_result rest))
    where
      by : (b : Bool) → entries_of (if b then form.Nop else i) ≤ entries_of i
      by true = omega arith
      by false = omega arith

  all_entries_fall : (is : List Insn) → sum_by entries_of (silenced_insns s is) ≤ sum_by entries_of is
  all_entries_fall [] = omega arith
  all_entries_fall (i ∷ is) = omega (arith, entries_fall i is, all_entries_fall is, sum_by-cons entries_of (silenced_insn s i is) (silenced_insns s is), sum_by-cons entries_of i is)

  body_cells_fall : (b : Body) → body_cells (silenced_body s b) ≤ body_cells b
  body_cells_fall b = rw (length_kept b.insns) (omega (arith, all_entries_fall b.insns))

  -- ---- methods

  module _ (admitted : List Bool) where
    -- what is true of a method, and of it with a silenced body
    method_by : (P : Method → Type 0) (m : Method) → P (record m { body = option_map (silenced_body s) m.body }) → P m → P (silenced_method s admitted m)
    method_by P m new same = by (slice_index_or admitted m.name false)
      where
        by : (b : Bool) → P (if b then record m { body = option_map (silenced_body s) m.body } else m)
        by true = new
        by false = same

    key_same : (m : Method) → own_method_key (silenced_method s admitted m) ≡ own_method_key m
    key_same m = method_by (λ x. own_method_key x ≡ own_method_key m) m refl refl

    cells_fall : (m : Method) → method_cells (silenced_method s admitted m) ≤ method_cells m
    cells_fall m = method_by (λ x. method_cells x ≤ method_cells m) m (by m.body) (omega arith)
      where
        by : (o : Option Body) → method_cells (record m { body = option_map (silenced_body s) o }) ≤ method_cells (record m { body = o })
        by None = omega arith
        by (Some b) = body_cells_fall b

    items_fall : (m : Method) → method_items (silenced_method s admitted m) ≤ method_items m
    items_fall m = method_by (λ x. method_items x ≤ method_items m) m (by m.body) (omega arith)
      where
        by : (o : Option Body) → method_items (record m { body = option_map (silenced_body s) o }) ≤ method_items (record m { body = o })
        by None = omega arith
        by (Some b) = omega arith

    module _ (p : Program) where
      direct_same : (m : Method) → is_direct p (silenced_method s admitted m) ≡ is_direct p m
      unfolding is_direct
      direct_same m = method_by (λ x. is_direct p x ≡ is_direct p m) m refl refl

      order_same : (a b : Method) → methods_in_order p (silenced_method s admitted a, silenced_method s admitted b) ≡ methods_in_order p (a, b)
      unfolding is_direct
      order_same a b =
          method_by (λ x. methods_in_order p (x, silenced_method s admitted b) ≡ methods_in_order p (a, b)) a
          (method_by (λ y. methods_in_order p (a, y) ≡ methods_in_order p (a, b)) b refl refl)
          (method_by (λ y. methods_in_order p (a, y) ≡ methods_in_order p (a, b)) b refl refl)

      code_kept : (m : Method) (o : Option Body) → code_fits p m o ≡ true → code_fits p (record m { body = option_map (silenced_body s) m.body }) (option_map (silenced_body s) o) ≡ true
      unfolding frame_fits
      code_kept m None h = h
      code_kept m (Some b) h =
          let all = and_parts (not (lacks_code m.flags)) (frame_fits p m b && (body_fits p b && lines_fit (length b.insns) m.lines)) h in
          let more = and_parts (frame_fits p m b) (body_fits p b && lines_fit (length b.insns) m.lines) all.1 in
          let two = and_parts (body_fits p b) (lines_fit (length b.insns) m.lines) more.1 in
          and_from _ _ all.0 (and_from _ _ more.0 (and_from _ _ (body_kept p b two.0) (ap (λ n. lines_fit n m.lines) (length_kept b.insns) ∙ two.1)))

      method_kept : (class : ℕ) (m : Method) → method_fits p class m ≡ true → method_fits p class (silenced_method s admitted m) ≡ true
      unfolding method_fits
      method_kept class m h = method_by (λ x. method_fits p class x ≡ true) m new h
        where
          new : method_fits p class (record m { body = option_map (silenced_body s) m.body }) ≡ true
          new =
              let all = and_parts (is_class_number (class_of_method (slice_get p.methods m.name)) class && code_fits p m m.body) (marks_fit p m.marks && list_all (marks_fit p) m.parameter_marks) h in
              let two = and_parts (is_class_number (class_of_method (slice_get p.methods m.name)) class) (code_fits p m m.body) all.0 in
              and_from _ _ (and_from _ _ two.0 (code_kept m m.body two.1)) all.1

      methods_kept : (class : ℕ) (ms : List Method) → methods_fit p class ms ≡ true → methods_fit p class (map (silenced_method s admitted) ms) ≡ true
      unfolding methods_fit
      methods_kept class ms h =
          let all = and_parts (list_all (method_fits p class) ms) (list_all (methods_in_order p) (neighbours ms) && all_differ own_method_key ms) h in
          let two = and_parts (list_all (methods_in_order p) (neighbours ms)) (all_differ own_method_key ms) all.1 in
          and_from _ _ (all_map (silenced_method s admitted) (method_fits p class) (method_fits p class) (method_kept class) ms all.0)
          (and_from _ _ (order_map (silenced_method s admitted) (methods_in_order p) order_same ms ∙ two.0) (differ_map (silenced_method s admitted) own_method_key key_same ms [] ∙ two.1))

      class_kept : (c : Class) → class_fits p c ≡ true → class_fits p (silenced_class s admitted c) ≡ true
      unfolding class_fits types_of_class_fit
      class_kept c h =
          let all = and_parts (types_of_class_fit p c && (source_fits p c.source && marks_fit p c.marks)) (fields_fit p c.name c.fields && methods_fit p c.name c.methods) h in
          let members = and_parts (fields_fit p c.name c.fields) (methods_fit p c.name c.methods) all.1 in
          and_from _ _ all.0 (and_from _ _ members.0 (methods_kept c.name c.methods members.1))

    -- ---- the program

    class_items_fall : (c : Class) → class_items (silenced_class s admitted c) ≤ class_items c
    unfolding class_items
    class_items_fall c = omega (arith, sum_map (silenced_method s admitted) method_items items_fall c.methods)

    class_cells_fall : (c : Class) → class_cells (silenced_class s admitted c) ≤ class_cells c
    class_cells_fall c = sum_map (silenced_method s admitted) method_cells cells_fall c.methods

    all_items_fall : (p : Program) → items_of (silenced s admitted p) ≤ items_of p
    unfolding items_of
    all_items_fall p = omega (arith, sum_map (silenced_class s admitted) class_items class_items_fall p.classes)

    at_most : (a b n : ℕ) → a ≤ b → nat_le b n ≡ true → nat_le a n ≡ true
    at_most a b n le h = le-leb a n (omega (arith, le, leb-true b n h))

    pub silenced_formed : (p : Program) → is_well_formed p ≡ true → is_well_formed (silenced s admitted p) ≡ true
    silenced_formed p h =
        let f = formed p h in
        let new = map (silenced_class s admitted) p.classes in
        well_formed (silenced s admitted p) (record {
          tables = tables_kept p new (omega (arith, length-map p.classes (silenced_class s admitted))) f.tables;
          cells = at_most (cells_of (silenced s admitted p)) (cells_of p) 67108864 (sum_map (silenced_class s admitted) class_cells class_cells_fall p.classes) f.cells;
          items = at_most (items_of (silenced s admitted p)) (items_of p) 16777216 (all_items_fall p) f.items;
          stands = stand_kept p (silenced s admitted p) (drawn_all (silenced_class s admitted) (λ c. record { name = refl; flags = refl; superclass = refl; interfaces = refl }) p.classes) f.stands;
          classes = all_map (silenced_class s admitted) (class_fits p) (class_fits (record p { classes = new })) (λ c k. class_same p new (silenced_class s admitted c) ∙ class_kept p c k) p.classes f.classes;
        })

    pub still_formed : (p q : Program) → q ≡ silenced s admitted p → is_well_formed p ≡ true → is_well_formed q ≡ true
    still_formed p q e h = ap is_well_formed e ∙ silenced_formed p h
