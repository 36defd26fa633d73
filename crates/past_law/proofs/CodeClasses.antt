-- What the code of the methods of a class takes stands in the bytes, and where it passes a limit one thing more does.
use Rattle.std.proofs.Common.{◌≡◌, ◌≤◌, ◌<◌, inl, inr, ◌^◌, ℕ, zero, suc, ◌+◌, ◌-◌, ◌*◌, cond, eqb, List, [], ◌∷◌, ◌++◌, map, length, Some, Ok, refl, ap, subst, ◌∙◌, arith}
use Rattle.std.specs.Prelude.{slice_get, slice_index}
use Rattle.lemmas.proofs.Lists.{got_map}
use Rattle.dex_pools.specs.declared.header.Extent.{Extent}
use Rattle.dex_pools.specs.Spelled.{IsExtent}
use Rattle.program_model.specs.Limits.{limit_of}
use Rattle.program_model.specs.declared.limits.Counted.TheVariants.{Cells}
use Rattle.program_model.specs.declared.limits.LimitFault.{LimitFault}
use Rattle.program_model.specs.declared.program.Program.{Program}
use Rattle.dex_defs.specs.ClassData.{IsClassDataOf}
use Rattle.dex_defs.specs.Places.{HasEntry, HasCounts}
use Rattle.dex_read.specs.declared.class_data.Listed.{Listed}
use Rattle.dex_read.specs.declared.class_data.Members.{Members}
use Rattle.dex_read.specs.declared.class_defs.ClassDef.{ClassDef}
use Rattle.dex_read.specs.declared.members.Budget.{Budget}
use Rattle.dex_read.specs.declared.members.Owner.{Owner}
use Rattle.dex_read.specs.Classes.{def_at, methods_of}
use Rattle.dex_read.specs.Classes as classes
use Rattle.dex_read.specs.Code.{method_at}
use Rattle.dex_read.specs.File.{head_at}
use Rattle.dex_read.specs.Steps.{for_each}
use Rattle.file_laws.specs.Founds.{Founds}
use Rattle.file_laws.specs.Class.{def_of, IsReadDef}
use Rattle.file_laws.specs.ClassData.{entry_of, lists_of}
use Rattle.file_laws.proofs.Classes.{founds_def}
use Rattle.file_laws.proofs.Tables.{finds_head}
use Rattle.read_laws.proofs.Bounds.{AreBytes}
use Rattle.spelled_law.proofs.Classes.{AreListed, founds_listed}
use Rattle.spelled_law.proofs.Whole.{few_bytes}
use Rattle.refused_law.proofs.Defs.{has_def}
use Rattle.refused_law.proofs.Entries.{AtList}
use Rattle.refused_law.proofs.Failing.{Fails}
use Rattle.refused_law.proofs.Listing.{read_entry}
use Rattle.refused_law.proofs.Read.{has_tables, ids_are, class_there}
use Rattle.past_law.specs.Code.{OfCode, CellsOf, Took, PassesBudget, OnPast, CodeTakes, PastCode}
use Rattle.past_law.proofs.Told.{none}
use Rattle.past_law.proofs.CodeReads.{Reads, gives, then, reads_more, past_more}
use Rattle.past_law.proofs.CodeTold.{WithKey, FromKey, renamed, first_key}
use Rattle.past_law.proofs.CodeCells.{MethodCell}
use Rattle.past_law.proofs.CodeMethods.{MethodItem, reads_method}

-- ---- methods by their number: direct ones first

abbrev pub place_key : ℕ → ℕ → ℕ → ℕ
place_key directs which place = cond (eqb which 2) place (directs + place)

abbrev pub item_key : ℕ → List ℕ → ℕ
item_key directs way = place_key directs (slice_index way 2) (slice_index way 3)

abbrev pub cell_key : ℕ → List ℕ → ℕ
cell_key directs way = place_key directs (slice_index way 1) (slice_index way 2)

-- the method of this number of a class
pub record IsMethod (bytes : List ℕ) (class directs k : ℕ) (e : Listed) : Type 0 where
  pub which : ℕ
  pub place : ℕ
  pub method : 2 ≤ which
  pub has : HasEntry bytes class which place (entry_of e)
  pub key : place_key directs which place ≡ k

module _ (bytes : List ℕ) (few : length bytes < 2 ^ 32) (p : Program) (class directs : ℕ) where
  abbrev ItemsWith : ℕ → List ℕ → Type 0
  ItemsWith k way = WithKey (OfCode class) (item_key directs) k way

  abbrev CellsWith : ℕ → List ℕ → Type 0
  CellsWith k way = WithKey (CellsOf class) (cell_key directs) k way

  abbrev ItemsFrom : ℕ → List ℕ → Type 0
  ItemsFrom k way = FromKey (OfCode class) (item_key directs) k way

  abbrev CellsFrom : ℕ → List ℕ → Type 0
  CellsFrom k way = FromKey (CellsOf class) (cell_key directs) k way

  abbrev Here : ℕ → Budget → LimitFault → Type 0
  Here k s limit = PassesBudget bytes (ItemsWith k) (CellsWith k) s limit

  abbrev Behind : ℕ → Budget → LimitFault → Type 0
  Behind k s limit = PassesBudget bytes (ItemsFrom k) (CellsFrom k) s limit

  -- ---- names

  item_name : (k which place : ℕ) (way : List ℕ) → place_key directs which place ≡ k → MethodItem class which place way → ItemsWith k way
  item_name k which place way key h = ((h.0, h.1), ap (λ (n : ℕ). place_key directs n (slice_index way 3)) h.2 ∙ ap (λ (n : ℕ). place_key directs which n) h.3 ∙ key)

  cell_name : (k which place : ℕ) (way : List ℕ) → place_key directs which place ≡ k → MethodCell class which place way → CellsWith k way
  cell_name k which place way key h = (h.0, ap (λ (n : ℕ). place_key directs n (slice_index way 2)) h.1 ∙ ap (λ (n : ℕ). place_key directs which n) h.2 ∙ key)

  by_key : (k which place : ℕ) (s : Budget) (limit : LimitFault) → place_key directs which place ≡ k → PassesBudget bytes (MethodItem class which place) (MethodCell class which place) s limit → Here k s limit
  by_key k which place s limit key (inl h) = inl (h.0, renamed (suc s.items) h.1 (λ way g. item_name k which place way key g) (omega arith))
  by_key k which place s limit key (inr h) = inr (h.0, renamed (suc (limit_of Cells) - s.cells) h.1 (λ way g. cell_name k which place way key g) (omega arith))

  took_by_key : (k which place : ℕ) (s t : Budget) → place_key directs which place ≡ k → Took bytes (MethodItem class which place) (MethodCell class which place) s t → Took bytes (ItemsWith k) (CellsWith k) s t
  took_by_key k which place s t key h = record {
    items = renamed (s.items - t.items) h.items (λ way g. item_name k which place way key g) (omega arith);
    cells = renamed (t.cells - s.cells) h.cells (λ way g. cell_name k which place way key g) (omega arith);
  }

  -- ---- one method behind another

  took_both : (k : ℕ) (s t u : Budget) → Took bytes (ItemsWith k) (CellsWith k) s t → Took bytes (ItemsFrom (suc k)) (CellsFrom (suc k)) t u → Took bytes (ItemsFrom k) (CellsFrom k) s u
  took_both k s t u a b = record {
    items = first_key (OfCode class) (item_key directs) k (s.items - t.items) (t.items - u.items) (s.items - u.items) a.items b.items (omega arith);
    cells = first_key (CellsOf class) (cell_key directs) k (t.cells - s.cells) (u.cells - t.cells) (u.cells - s.cells) a.cells b.cells (omega arith);
  }

  passes_here : (k : ℕ) (s : Budget) (limit : LimitFault) → Here k s limit → Behind k s limit
  passes_here k s limit (inl h) = inl (h.0, renamed (suc s.items) h.1 (λ way g. (g.0, (let is = g.1 in omega (arith, is)))) (omega arith))
  passes_here k s limit (inr h) = inr (h.0, renamed (suc (limit_of Cells) - s.cells) h.1 (λ way g. (g.0, (let is = g.1 in omega (arith, is)))) (omega arith))

  passes_later : (k : ℕ) (s t : Budget) → Took bytes (ItemsWith k) (CellsWith k) s t → (limit : LimitFault) → Behind (suc k) t limit → Behind k s limit
  passes_later k s t a limit (inl h) = inl (h.0, first_key (OfCode class) (item_key directs) k (s.items - t.items) (suc t.items) (suc s.items) a.items h.1 (omega arith))
  passes_later k s t a limit (inr h) = inr (h.0, first_key (CellsOf class) (cell_key directs) k (t.cells - s.cells) (suc (limit_of Cells) - t.cells) (suc (limit_of Cells) - s.cells) a.cells h.1 (omega arith))

  nothing_more : (k : ℕ) (s : Budget) → Took bytes (ItemsFrom k) (CellsFrom k) s s
  nothing_more k s = record { items = renamed {In = ItemsFrom k} (s.items - s.items) none (λ way h. h) (omega arith); cells = renamed {In = CellsFrom k} (s.cells - s.cells) none (λ way h. h) (omega arith) }

  reads_one : (k : ℕ) (s : Budget) (e : Listed) → IsMethod bytes class directs k e → Reads (λ y. Took bytes (ItemsWith k) (CellsWith k) s y.1) (OnPast (Behind k s)) (method_at bytes p e s)
  reads_one k s e m = reads_more (λ y h. took_by_key k m.which m.place s y.1 m.key h)
      (past_more (PassesBudget bytes (MethodItem class m.which m.place) (MethodCell class m.which m.place) s) (Behind k s) (λ limit h. passes_here k s limit (by_key k m.which m.place s limit m.key h)))
      (reads_method bytes few p class m.which m.place m.method e m.has s)

  reads_each : (es : List Listed) (k : ℕ) (s : Budget) → ((i : ℕ) (e : Listed) → slice_get es i ≡ Some e → IsMethod bytes class directs (k + i) e) → Reads (λ r. Took bytes (ItemsFrom k) (CellsFrom k) s r.1) (OnPast (Behind k s)) (for_each (method_at bytes p) es s)
  reads_each [] k s all = gives ([], s) (nothing_more k s)
  reads_each (e ∷ es) k s all =
      let here : k + 0 ≡ k = omega arith in
      then (reads_one k s e (subst (λ (n : ℕ). IsMethod bytes class directs n e) here (all 0 e refl))) (λ y _ took.
      then (reads_more {Is = λ r. Took bytes (ItemsFrom (suc k)) (CellsFrom (suc k)) y.1 r.1} {Has = OnPast (Behind k s)} (λ r h. h) (past_more (Behind (suc k) y.1) (Behind k s) (passes_later k s y.1 took))
      (reads_each es (suc k) y.1 (λ i x there. (let on : k + suc i ≡ suc k + i = omega arith in subst (λ (n : ℕ). IsMethod bytes class directs n x) on (all (suc i) x there)))))
      (λ ys _ more. gives (y.0 ∷ ys.0, ys.1) (took_both k s y.1 ys.1 took more)))

  pub reads_all : (es : List Listed) (s : Budget) → ((k : ℕ) (e : Listed) → slice_get es k ≡ Some e → IsMethod bytes class directs k e) → Reads (λ r. CodeTakes bytes class s r.1) (PastCode bytes class s) (for_each (method_at bytes p) es s)
  reads_all es s all = reads_more (λ r h. by_names s r.1 h) (past_more (Behind 0 s) (PassesBudget bytes (OfCode class) (CellsOf class) s) (all_names s))
      (reads_each es 0 s (λ i e there. (let on : i ≡ 0 + i = omega arith in subst (λ (n : ℕ). IsMethod bytes class directs n e) on (all i e there))))
    where
      by_names : (s t : Budget) → Took bytes (ItemsFrom 0) (CellsFrom 0) s t → CodeTakes bytes class s t
      by_names s t h = record { items = renamed (s.items - t.items) h.items (λ way g. g.0) (omega arith); cells = renamed (t.cells - s.cells) h.cells (λ way g. g.0) (omega arith) }

      all_names : (s : Budget) (limit : LimitFault) → Behind 0 s limit → PassesBudget bytes (OfCode class) (CellsOf class) s limit
      all_names s limit (inl h) = inl (h.0, renamed (suc s.items) h.1 (λ way g. g.0) (omega arith))
      all_names s limit (inr h) = inr (h.0, renamed (suc (limit_of Cells) - s.cells) h.1 (λ way g. g.0) (omega arith))

-- ---- the methods of a class that is read

none_there : {A : Type 0} (es : List Listed) (i : ℕ) (e : Listed) → map entry_of es ≡ [] → slice_get es i ≡ Some e → A
none_there [] i e h there = absurd cc
none_there (x ∷ xs) i e h there = absurd cc

-- an entry at this place of one of two lists
got_append : {X : Type 0} (P : ℕ → X → Type 0) (xs ys : List X) (from : ℕ) → ((k : ℕ) (x : X) → slice_get xs k ≡ Some x → P (from + k) x) → ((k : ℕ) (y : X) → slice_get ys k ≡ Some y → P (from + length xs + k) y)
    → (k : ℕ) (z : X) → slice_get (xs ++ ys) k ≡ Some z → P (from + k) z
got_append P [] ys from f g k z h = let on : from + 0 + k ≡ from + k = omega arith in subst (λ (n : ℕ). P n z) on (g k z h)
got_append P (x ∷ xs) ys from f g zero z h = f 0 z h
got_append P (x ∷ xs) ys from f g (suc k) z h =
    let on : suc from + k ≡ from + suc k = omega arith in
    subst (λ (n : ℕ). P n z) on (got_append P xs ys (suc from) (λ j y e. (let up : from + suc j ≡ suc from + j = omega arith in subst (λ (n : ℕ). P n y) up (f (suc j) y e)))
    (λ j y e. (let up : from + suc (length xs) + j ≡ suc from + length xs + j = omega arith in subst (λ (n : ℕ). P n y) up (g j y e))) k z h)

module _ (bytes : List ℕ) (are : AreBytes bytes) (p : Program) (left : ℕ) (head : head_at bytes ≡ Ok (p, left)) (table : Extent) (stands : IsExtent bytes 96 32 table) (place : ℕ) (less : place < table.size) where
  abbrev at : ℕ
  at = table.offset + 32 * place

  few_of : length bytes < 2 ^ 32
  few_of = let found = (finds_head bytes).found (p, left) head in few_bytes bytes found.version are found.header.header

  module _ (d : ClassDef) (h : def_at bytes p at ≡ Ok d) where
    abbrev owner : Owner
    owner = record { place = place; kind = d.class }

    module _ (m : Members) (g : classes.listed_at bytes p owner d.data_at ≡ Ok m) where
      listed : AreListed bytes p owner d.data_at m
      listed = (founds_listed bytes p owner d.data_at).found m g

      -- a method of the class, by its number
      abbrev Numbered : ℕ → Listed → Type 0
      Numbered k e = IsMethod bytes place (length m.directs) k e

      by_data : (offset : ℕ) → offset ≡ d.data_at → IsClassDataOf bytes offset (lists_of m) → (k : ℕ) (e : Listed) → slice_get (m.directs ++ m.virtuals) k ≡ Some e → Numbered (0 + k) e
      by_data zero same is k e there = got_append Numbered m.directs m.virtuals 0 (λ j x got. none_there m.directs j x (ap (λ l. l.directs) is) got) (λ j x got. none_there m.virtuals j x (ap (λ l. l.virtuals) is) got) k e there
      by_data (suc n) same is k e there =
          let data_is = is.1 in
          let c = data_is.counts in
          let def_is : IsReadDef bytes p at d = (founds_def bytes p at).found d h in
          let def_there = has_def bytes are p (has_tables bytes are p left head) place at (class_there bytes are p left head table stands place less) d def_is in
          let leads : (0 < d.data_at) × (suc n ≡ d.data_at) = (omega (arith, same), same) in
          let ids = ids_are bytes are p left head in
          let lists = lists_of m in
          let n0 = length lists.statics in let n1 = length lists.instances in let n2 = length lists.directs in let n3 = length lists.virtuals in
          let counted : HasCounts bytes (suc n) (n0 ∷ n1 ∷ n2 ∷ n3 ∷ []) data_is.begin = record { four = refl; are = (c.second, c.statics, (c.third, c.instances, (c.fourth, c.directs, (data_is.begin, c.virtuals, refl)))) } in
          let counts = n0 ∷ n1 ∷ n2 ∷ n3 ∷ [] in
          let l2 : AtList bytes place (suc n) 2 n2 data_is.directs_at = record {
            def = def_of d;
            has = def_there;
            leads = leads;
            counts = counts;
            begin = data_is.begin;
            counted = counted;
            lists = lists.statics ∷ lists.instances ∷ [];
            many = refl;
            full = (refl, (data_is.instances_at, data_is.statics, (refl, (data_is.directs_at, data_is.instances, refl))));
            is_count = refl;
          } in
          let l3 : AtList bytes place (suc n) 3 n3 data_is.virtuals_at = record {
            def = def_of d;
            has = def_there;
            leads = leads;
            counts = counts;
            begin = data_is.begin;
            counted = counted;
            lists = lists.statics ∷ lists.instances ∷ lists.directs ∷ [];
            many = refl;
            full = (refl, (data_is.instances_at, data_is.statics, (refl, (data_is.directs_at, data_is.instances, (refl, (data_is.virtuals_at, data_is.directs, refl))))));
            is_count = refl;
          } in
          got_append Numbered m.directs m.virtuals 0
          (λ j x got. record {
            which = 2;
            place = j;
            method = omega arith;
            has = read_entry bytes p ids owner (def_of d) def_there refl (suc n) leads 2 n2 data_is.directs_at l2 m.directs data_is.virtuals_at j (entry_of x) refl data_is.directs (got_map entry_of m.directs j x got);
            key = (let on : j ≡ 0 + j = omega arith in on);
          })
          (λ j x got. record {
            which = 3;
            place = j;
            method = omega arith;
            has = read_entry bytes p ids owner (def_of d) def_there refl (suc n) leads 3 n3 data_is.virtuals_at l3 m.virtuals is.0 j (entry_of x) refl data_is.virtuals (got_map entry_of m.virtuals j x got);
            key = (let on : length m.directs + j ≡ 0 + length m.directs + j = omega arith in on);
          })
          k e there

      reads_methods : (budget : Budget) → Reads (λ r. CodeTakes bytes place budget r.1) (PastCode bytes place budget) (methods_of bytes p m budget)
      unfolding methods_of
      reads_methods budget = reads_all bytes few_of p place (length m.directs) (m.directs ++ m.virtuals) budget
          (λ k e there. (let on : 0 + k ≡ k = omega arith in subst (λ (n : ℕ). Numbered n e) on (by_data d.data_at refl listed.data_is k e there)))

      -- what the code of the methods takes, and where it passes a limit
      pub founds_code : (budget : Budget) → Founds (λ r. CodeTakes bytes place budget r.1) (methods_of bytes p m budget)
      founds_code budget = record { found = (reads_methods budget).found }

      pub fails_code : (budget : Budget) → Fails (PastCode bytes place budget) (methods_of bytes p m budget)
      fails_code budget = record { fault = (reads_methods budget).fault }
