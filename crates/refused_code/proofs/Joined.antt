-- A fault for which a file is refused stands in the file.
use Rattle.std.proofs.Common.{◌≡◌, ◌≤◌, ◌<◌, ◌^◌, ℕ, zero, suc, ◌+◌, ◌*◌, false, eqb, Bool, true, subst, sym, List, [], ◌∷◌, ◌++◌, map, length, Result, Some, Ok, refl, ap, ◌∙◌, arith}
use Rattle.std.specs.Prelude.{slice_get}
use Rattle.std.specs.List.{AllByRecursion}
use Rattle.std.proofs.Math.Nat.{min-le_left}
use Rattle.lemmas.proofs.Options.{some_same}
use Rattle.lemmas.proofs.Lists.{map_long, got_map}
use Rattle.dex_base.specs.Word.{Is32}
use Rattle.dex_pools.specs.declared.header.Extent.{Extent}
use Rattle.dex_pools.specs.Spelled.{IsExtent}
use Rattle.program_model.specs.declared.program.Field.{Field}
use Rattle.program_model.specs.declared.program.Method.{Method}
use Rattle.program_model.specs.declared.program.Program.{Program}
use Rattle.dex_defs.specs.Annotations.{AreMarksOf}
use Rattle.dex_defs.specs.ClassData.{IsClassDataOf}
use Rattle.dex_defs.specs.Places.{HasEntry, HasCounts}
use Rattle.dex_read.specs.declared.class_data.Listed.{Listed}
use Rattle.dex_read.specs.declared.class_data.Members.{Members}
use Rattle.dex_read.specs.declared.class_defs.ClassDef.{ClassDef}
use Rattle.dex_read.specs.declared.members.Budget.{Budget}
use Rattle.dex_read.specs.declared.members.Owner.{Owner}
use Rattle.dex_read.specs.Classes.{def_at, field_with, no_members, methods_of, marked_at, class_with, class_at}
use Rattle.dex_read.specs.Classes as classes
use Rattle.dex_read.specs.Code.{frame_at, method_at}
use Rattle.dex_read.specs.Directory.{Marked, with_marks}
use Rattle.dex_read.specs.File.{head_at, class_in, table_at, classes_at, program_at}
use Rattle.dex_read.specs.Steps.{for_each}
use Rattle.dex_read.specs.Tables.{sizes_in}
use Rattle.file_laws.specs.Class.{def_of, IsReadDef}
use Rattle.file_laws.specs.ClassData.{entry_of, lists_of, MethodSuits}
use Rattle.file_laws.proofs.Classes.{founds_def}
use Rattle.file_laws.proofs.Tables.{finds_head}
use Rattle.file_laws.proofs.Words.{finds_word, finds_need}
use Rattle.read_laws.proofs.Bounds.{AreBytes}
use Rattle.spelled_law.proofs.Classes.{AreListed, founds_listed}
use Rattle.spelled_law.proofs.Codes.{IsMade, founds_methods}
use Rattle.spelled_law.proofs.Directories.{IsMarked, founds_marked}
use Rattle.spelled_law.proofs.Turning.{Over, Along, Turned, along_beside, settled}
use Rattle.spelled_law.proofs.Whole.{few_bytes}
use Rattle.refused_law.proofs.Defs.{has_def}
use Rattle.refused_law.proofs.Failing.{Fails, sound, fails_either, fails_next, fails_run}
use Rattle.refused_law.proofs.Headers.{fails_word, fails_class_table}
use Rattle.refused_law.proofs.Listing.{read_entry}
use Rattle.refused_law.proofs.Entries.{AtList}
use Rattle.refused_law.proofs.Read.{has_tables, sizes_are, ids_are, class_there, fails_class_def, fails_its_interfaces, fails_its_members, fails_its_root, fails_stands}
use Rattle.refused_law.proofs.ReadDirectories.{fails_its_directory}
use Rattle.refused_law.proofs.ReadFirsts.{fails_its_firsts}
use Rattle.refused_law.proofs.Whole.{fails_head}
use Rattle.refused_law.specs.Just.{IsJust}
use Rattle.refused_code.proofs.Frames.{fails_frame_at}
use Rattle.refused_code.proofs.Items.{Frames, fails_method}

positive : (n : ℕ) → eqb n 0 ≡ false → 0 < n
positive zero e = absurd cc
positive (suc n) e = omega arith

-- ---- what is read for each entry

-- the entry at a place of a list of which something is known
one_suits : (P : Listed → Type 0) (es : List Listed) (i : ℕ) (e : Listed) → AllByRecursion P es → slice_get es i ≡ Some e → P e
one_suits P [] i e h there = absurd cc
one_suits P (x ∷ xs) zero e h there = subst P (some_same x e there) h.0
one_suits P (x ∷ xs) (suc i) e h there = one_suits P xs i e h.1 there

-- an entry at this place of one of two lists
got_append : {X : Type 0} (P : X → Type 0) (xs ys : List X) → ((k : ℕ) (x : X) → slice_get xs k ≡ Some x → P x) → ((k : ℕ) (y : X) → slice_get ys k ≡ Some y → P y) → (k : ℕ) (z : X) → slice_get (xs ++ ys) k ≡ Some z → P z
got_append P [] ys f g k z h = g k z h
got_append P (x ∷ xs) ys f g zero z h = f 0 z h
got_append P (x ∷ xs) ys f g (suc k) z h = got_append P xs ys (λ j y e. f (suc j) y e) g k z h

fails_for_each : {X Y S F : Type 0} {Has : F → Type 0} (f : X → S → Result (Y × S) F) (xs : List X) (s : S) → ((k : ℕ) (x : X) (s : S) → slice_get xs k ≡ Some x → Fails Has (f x s)) → Fails Has (for_each f xs s)
fails_for_each f [] s h = sound ([], s)
fails_for_each f (x ∷ xs) s h = fails_next (h 0 x s refl) (λ y _. fails_next (fails_for_each f xs y.1 (λ k z t there. h (suc k) z t there)) (λ ys _. sound (y.0 ∷ ys.0, ys.1)))

none_there : {A : Type 0} (es : List Listed) (i : ℕ) (e : Listed) → map entry_of es ≡ [] → slice_get es i ≡ Some e → A
none_there [] i e h there = absurd cc
none_there (x ∷ xs) i e h there = absurd cc

-- the fields keep their names where annotations are given to them
names_kept : (bytes : List ℕ) (p : Program) (ps : List (ℕ × ℕ)) (es : List Listed) (ys : List Field) → Over (Turned with_marks (AreMarksOf bytes (sizes_in p)) ps) es (map field_with es) ys
    → map (λ (f : Field). f.name) ys ≡ map (λ (e : Listed). e.number) es
names_kept bytes p ps [] [] h = refl
names_kept bytes p ps [] (y ∷ ys) h = absurd h
names_kept bytes p ps (e ∷ es) [] h = absurd h
names_kept bytes p ps (e ∷ es) (y ∷ ys) h =
    let s = settled with_marks (AreMarksOf bytes (sizes_in p)) [] ps e (field_with e) (field_with e) y refl refl refl h.0 in
    ap (λ (n : ℕ). n ∷ map (λ (f : Field). f.name) ys) (ap (λ (f : Field). f.name) s.1) ∙ ap (λ (ns : List ℕ). e.number ∷ ns) (names_kept bytes p ps es ys h.1)

module _ (bytes : List ℕ) (are : AreBytes bytes) (p : Program) (left : ℕ) (head : head_at bytes ≡ Ok (p, left)) (table : Extent) (stands : IsExtent bytes 96 32 table) (place : ℕ) (less : place < table.size) where
  abbrev at : ℕ
  at = table.offset + 32 * place

  few : length bytes < 2 ^ 32
  few = let found = (finds_head bytes).found (p, left) head in few_bytes bytes found.version are found.header.header

  -- ---- one class

  module _ (d : ClassDef) (h : def_at bytes p at ≡ Ok d) where
    abbrev owner : Owner
    owner = record { place = place; kind = d.class }

    fails_listed : Fails (IsJust bytes) (classes.listed_at bytes p owner d.data_at)
    fails_listed = fails_either (λ _. sound no_members) (λ some. fails_its_members bytes are p left head table stands place less d h (positive d.data_at some))

    module _ (m : Members) (g : classes.listed_at bytes p owner d.data_at ≡ Ok m) where
      listed : AreListed bytes p owner d.data_at m
      listed = (founds_listed bytes p owner d.data_at).found m g

      -- a method of the class
      abbrev IsMethod : Listed → Type 0
      IsMethod e = (which k : ℕ) × (2 ≤ which) × (e.number < length p.methods) × HasEntry bytes place which k (entry_of e)

      below : (direct : Bool) (earlier es : List Listed) → AllByRecursion (MethodSuits p owner direct earlier) es → (k : ℕ) (e : Listed) → slice_get es k ≡ Some e → e.number < length p.methods
      below direct earlier es all k e there = let suits = one_suits (MethodSuits p owner direct earlier) es k e all there in let low = min-le_left (length p.methods) 4294967295 in omega (arith, suits.0, low)

      by_data : (offset : ℕ) → offset ≡ d.data_at → IsClassDataOf bytes offset (lists_of m) → (k : ℕ) (e : Listed) → slice_get (m.directs ++ m.virtuals) k ≡ Some e → IsMethod e
      by_data zero same is k e there = got_append IsMethod m.directs m.virtuals (λ j x got. none_there m.directs j x (ap (λ l. l.directs) is) got) (λ j x got. none_there m.virtuals j x (ap (λ l. l.virtuals) is) got) k e there
      by_data (suc n) same is k e there =
          let data_is = is.1 in
          let c = data_is.counts in
          let def_is : IsReadDef bytes p at d = (founds_def bytes p at).found d h in
          let def_there = has_def bytes are p (has_tables bytes are p left head) place at (class_there bytes are p left head table stands place less) d def_is in
          let leads : (0 < d.data_at) × (suc n ≡ d.data_at) = (omega (arith, same), same) in
          let ids = ids_are bytes are p left head in
          let lists = lists_of m in
          let n0 = length lists.statics in let n1 = length lists.instances in let n2 = length lists.directs in let n3 = length lists.virtuals in
          let counted : HasCounts bytes (suc n) (n0 ∷ n1 ∷ n2 ∷ n3 ∷ []) data_is.begin = record { four = refl; are = (c.second, c.statics, (c.third, c.instances, (c.fourth, c.directs, (data_is.begin, c.virtuals, refl)))) } in
          let counts = n0 ∷ n1 ∷ n2 ∷ n3 ∷ [] in
          let l2 : AtList bytes place (suc n) 2 n2 data_is.directs_at = record {
            def = def_of d;
            has = def_there;
            leads = leads;
            counts = counts;
            begin = data_is.begin;
            counted = counted;
            lists = lists.statics ∷ lists.instances ∷ [];
            many = refl;
            full = (refl, (data_is.instances_at, data_is.statics, (refl, (data_is.directs_at, data_is.instances, refl))));
            is_count = refl;
          } in
          let l3 : AtList bytes place (suc n) 3 n3 data_is.virtuals_at = record {
            def = def_of d;
            has = def_there;
            leads = leads;
            counts = counts;
            begin = data_is.begin;
            counted = counted;
            lists = lists.statics ∷ lists.instances ∷ lists.directs ∷ [];
            many = refl;
            full = (refl, (data_is.instances_at, data_is.statics, (refl, (data_is.directs_at, data_is.instances, (refl, (data_is.virtuals_at, data_is.directs, refl))))));
            is_count = refl;
          } in
          got_append IsMethod m.directs m.virtuals
          (λ j x got. (2, j, omega arith, below true [] m.directs listed.directs j x got, read_entry bytes p ids owner (def_of d) def_there refl (suc n) leads 2 n2 data_is.directs_at l2 m.directs data_is.virtuals_at j (entry_of x) refl data_is.directs (got_map entry_of m.directs j x got)))
          (λ j x got. (3, j, omega arith, below false m.directs m.virtuals listed.virtuals j x got, read_entry bytes p ids owner (def_of d) def_there refl (suc n) leads 3 n3 data_is.virtuals_at l3 m.virtuals is.0 j (entry_of x) refl data_is.virtuals (got_map entry_of m.virtuals j x got)))
          k e there

      frames : (e : Listed) → e.number < length p.methods → Frames bytes p place e
      frames e less item f is registers ins =
          let t = ((finds_head bytes).found (p, left) head).tables in
          let version = ((finds_head bytes).found (p, left) head).version in
          let own : e.number < length t.pools.methods = subst (λ (x : Program). e.number < length x.methods) t.is less in
          subst (λ (x : Program). Fails (IsJust bytes) (frame_at x e item)) (sym t.is) (fails_frame_at bytes version t.pools t.spelled place e item f is registers ins own)

      fails_methods : (budget : Budget) → Fails (IsJust bytes) (methods_of bytes p m budget)
      unfolding methods_of
      fails_methods budget = fails_for_each (method_at bytes p) (m.directs ++ m.virtuals) budget (λ k e b there. let x = by_data d.data_at refl listed.data_is k e there in
          fails_method bytes few p (sizes_are bytes are p left head) place x.0 x.1 x.2 e x.4 (frames e x.3) b)

      fails_marked : (fields : List Field) (methods : List Method) (behind : ℕ) → Fails (IsJust bytes) (marked_at bytes p place m d.annotations fields methods behind)
      unfolding marked_at
      fails_marked fields methods behind = fails_either (λ _. sound (record { marks = []; fields = fields; methods = methods; left = behind })) (λ some. fails_its_directory bytes are p left head table stands place less d h m g (positive d.annotations some) fields methods behind)

      abbrev plain : List Field
      plain = map field_with (m.statics ++ m.instances)

      named : (budget : Budget) (methods : List Method × Budget) → methods_of bytes p m budget ≡ Ok methods → (marked : Marked) → marked_at bytes p place m d.annotations plain methods.0 methods.1.items ≡ Ok marked
          → map (λ (f : Field). f.name) marked.fields ≡ map (λ (e : Listed). e.number) (m.statics ++ m.instances)
      named budget methods h5 marked h6 =
          let made : Along (IsMade bytes p) (m.directs ++ m.virtuals) methods.0 = (founds_methods bytes few p m budget).found methods h5 in
          let is : IsMarked bytes p m d.annotations plain methods.0 marked
          = (founds_marked bytes p place m plain methods.0 (map_long field_with (m.statics ++ m.instances)) (along_beside (IsMade bytes p) (m.directs ++ m.virtuals) methods.0 made) listed.fields_differ listed.methods_differ d.annotations methods.1.items).found marked h6 in
          names_kept bytes p is.directory.fields (m.statics ++ m.instances) marked.fields is.fields_are

  fails_class : (budget : Budget) → Fails (IsJust bytes) (class_at bytes p at place budget)
  unfolding class_at
  fails_class budget =
      fails_next (fails_class_def bytes are p left head table stands place less) (λ d h.
      fails_next (fails_its_interfaces bytes are p left head table stands place less d budget.items h) (λ interfaces h2.
      fails_next (fails_its_root bytes are p left head table stands place less d interfaces.0 budget.items interfaces.1 h h2) (λ root _.
      fails_next (fails_listed d h) (λ m g.
      fails_next (fails_methods d h m g (record { items = interfaces.1; cells = budget.cells })) (λ methods h5.
      fails_next (fails_marked d h m g (plain d h m g) methods.0 methods.1.items) (λ marked h6.
      fails_next (fails_its_firsts bytes are p left head table stands place less d h m g marked.fields marked.left (named d h m g (record { items = interfaces.1; cells = budget.cells }) methods h5 marked h6)) (λ fields _.
      sound (class_with d interfaces.0 marked fields.0, record { items = fields.1; cells = methods.1.cells }))))))))

-- ---- the file

module _ (bytes : List ℕ) (are : AreBytes bytes) where
  module _ (p : Program) (left : ℕ) (head : head_at bytes ≡ Ok (p, left)) where
    fails_table : (count offset : ℕ) → Is32 bytes 96 count → Is32 bytes 100 offset → (budget : Budget) → Fails (IsJust bytes) (table_at bytes p count offset budget)
    unfolding table_at
    fails_table count offset size begins budget = fails_either (λ _. sound ([], budget)) (λ some.
        fails_next (fails_class_table bytes count offset size begins (positive count some)) (λ u h.
        let inside : offset + 32 * count ≤ length bytes = (finds_need bytes offset (32 * count)).found u h in
        let table : Extent = record { size = count; offset = offset } in
        fails_run (class_in bytes p offset) 0 count budget (λ i b less. fails_class bytes are p left head table (record { size = size; offset = begins; inside = λ _. inside }) i (let low : i < count = omega (arith, less) in low) b)))

    fails_classes : (budget : Budget) → Fails (IsJust bytes) (classes_at bytes p budget)
    unfolding classes_at
    fails_classes budget =
        let whole : 112 ≤ length bytes = ((finds_head bytes).found (p, left) head).header.header.whole in
        fails_next (fails_word bytes 96 (omega (arith, whole))) (λ count h0.
        fails_next (fails_word bytes 100 (omega (arith, whole))) (λ offset h1.
        fails_next (fails_table count offset ((finds_word bytes 96).found count h0) ((finds_word bytes 100).found offset h1) budget) (λ classes _. sound classes.0)))

  pub fails_program : Fails (IsJust bytes) (program_at bytes)
  unfolding program_at
  fails_program =
      fails_next (fails_head bytes) (λ tables h.
      fails_next (fails_classes tables.0 tables.1 h (record { items = tables.1; cells = 0 })) (λ classes g.
      fails_next (fails_stands bytes are tables.0 tables.1 h classes (record { items = tables.1; cells = 0 }) g) (λ stands _. sound (record tables.0 { classes = classes }))))
