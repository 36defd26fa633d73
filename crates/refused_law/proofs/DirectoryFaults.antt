-- A fault of a directory of annotations that is answered stands there.
use Rattle.std.proofs.Common.{◌≡◌, ◌≤◌, ◌<◌, ℕ, zero, suc, ◌+◌, ◌*◌, false, ltb, eqb, List, ◌++◌, length, Option, Some, None, Ok, refl, sym, subst, ◌∙◌, arith, true≢false}
use Rattle.std.proofs.lemmas.Bool.{ltb-false, eq-eqb}
use Rattle.lemmas.proofs.Bools.{neither_of}
use Rattle.dex_base.specs.Reading.{◌>>=◌}
use Rattle.dex_base.specs.Word.{Is32}
use Rattle.program_model.specs.declared.program.Field.{Field}
use Rattle.program_model.specs.declared.program.Method.{Method}
use Rattle.program_model.specs.declared.program.Program.{Program}
use Rattle.dex_pools.specs.declared.fault.PoolFault.TheVariants as pool
use Rattle.dex_pools.specs.declared.fault.Table.TheVariants as table
use Rattle.dex_defs.specs.ClassData.{Entry}
use Rattle.dex_defs.specs.ClassDefs.{Def}
use Rattle.dex_defs.specs.Parts.{Bytes, IndexOf}
use Rattle.dex_defs.specs.Parts as parts
use Rattle.dex_defs.specs.Places.{HasDef, Leads, HasDirectory, DirectoryCounts, InList, PairStands, PairLeads, HasSet, HasRefs, HasEntry}
use Rattle.dex_defs.specs.Places as places
use Rattle.dex_defs.specs.Placed.{IsPlaced, HasSize, DirectoryHead, DirectoryWhole, PairField, PairMethod, PairParameters}
use Rattle.dex_defs.specs.Placed as placed
use Rattle.dex_defs.specs.Faults.{pairs_before, IsPairOf}
use Rattle.dex_defs.specs.Faults as orders
use Rattle.dex_defs.specs.ClassFaults.{HasFault, IsOfKind, BadPart, BadOrder, BadMember}
use Rattle.dex_defs.specs.ClassFaults as faults
use Rattle.dex_read.specs.declared.class_data.Listed.{Listed}
use Rattle.dex_read.specs.declared.class_data.Members.{Members}
use Rattle.dex_read.specs.declared.fault.DexFault.TheVariants as dex
use Rattle.dex_read.specs.ClassData.{ascends_at, place_in}
use Rattle.dex_read.specs.Directory.{set_at, sets_at, pair_at, found_at, named_at, with_marks, with_own_marks, with_parameter_marks, mark_field, mark_method, mark_parameters, marked, directory_at}
use Rattle.dex_read.specs.Header.{need_at}
use Rattle.dex_read.specs.Steps.{change_at, steps}
use Rattle.dex_read.specs.Tables.{sizes_in}
use Rattle.file_laws.proofs.Words.{finds_word, finds_need}
use Rattle.spelled_law.proofs.Directories.{founds_pair, founds_named, founds_mark_field, founds_mark_method, founds_mark_parameters}
use Rattle.refused_law.specs.Just.{IsJust}
use Rattle.refused_law.proofs.Failing.{Fails, sound, fails_with, unless, fails_next}
use Rattle.refused_law.proofs.FirstFaults.{fails_steps}
use Rattle.refused_law.proofs.Headers.{fails_word, fails_need}

module _ (bytes : List ℕ) (class : ℕ) (def : Def) (has_def : HasDef bytes class def) (at : ℕ) (leads : Leads def.annotations at) (fields methods parameters : ℕ) (counts : DirectoryCounts bytes at fields methods parameters) where
  directory : HasDirectory bytes class at
  directory = record { def = def; has = has_def; leads = leads }

  -- one of the three lists: how many pairs it has, and where its first one stands
  record IsList (pairs count base : ℕ) : Type 0 where
    first : base ≡ at + 16 + 8 * pairs_before pairs fields methods
    inside : (i : ℕ) → i < count → InList fields methods parameters pairs (pairs_before pairs fields methods + i)
    room : base + 8 * count ≤ length bytes

  module _ (pairs count base : ℕ) (l : IsList pairs count base) (size : ℕ) (index : (pair : ℕ) → PairStands bytes class pairs pair → IsPlaced bytes (IndexOf pair size)) (listed : List Listed)
      (none_of : (number : ℕ) → place_in number listed ≡ None → (which k : ℕ) (e : Entry) → IsOfKind pairs which → HasEntry bytes class which k e → e.number ≡ number → ⊥) where
    stands : (i : ℕ) → i < count → PairStands bytes class pairs (base + 8 * i)
    stands i less = record { directory = at; has = directory; fields = fields; methods = methods; parameters = parameters; counts = counts; i = pairs_before pairs fields methods + i; inside = l.inside i less; place = (let first = l.first in omega (arith, first)) }

    pair_of : IsPairOf bytes class pairs base
    pair_of = (at, fields, methods, parameters, directory, counts, l.first)

    -- the number of the pair before
    abbrev Good : {X : Type 0} → ℕ → X × (ℕ × ℕ) → Type 0
    Good i s = (k : ℕ) → i ≡ suc k → Is32 bytes (base + 8 * k) s.1.0

    fails_pair : (i : ℕ) → i < count → Fails (IsJust bytes) (pair_at bytes size (base + 8 * i))
    unfolding pair_at
    fails_pair i less = let room = l.room in fails_next (fails_word bytes (base + 8 * i) (omega (arith, room, less))) (λ number h. fails_next (fails_word bytes (base + 8 * i + 4) (omega (arith, room, less))) (λ offset _.
        unless (dex.Pool (pool.Index (base + 8 * i) number size)) (λ none. BadPart (IndexOf (base + 8 * i) size) (index (base + 8 * i) (stands i less)) (number, (finds_word bytes (base + 8 * i)).found number h, ltb-false number size none, refl))
        (λ _. sound (number, offset))))

    order_bad : (i before number : ℕ) → i < count → ((k : ℕ) → i ≡ suc k → Is32 bytes (base + 8 * k) before) → Is32 bytes (base + 8 * i) number → (i ≡ 0 → ⊥) → number ≤ before → HasFault bytes (parts.Order table.Members i)
    order_bad zero before number less good is other low = absurd (other refl)
    order_bad (suc k) before number less good is other low =
        let same : base + 8 * suc k ≡ base + 8 * k + 8 = omega arith in
        BadOrder (orders.Pairs class pairs base k (base + 8 * k) before number (stands k (omega (arith, less))) (subst (PairStands bytes class pairs) same (stands (suc k) less)) (good k refl)
        (subst (λ (n : ℕ). Is32 bytes n number) same is) low pair_of (sym same) refl)

    not_zero : (n : ℕ) → eqb n 0 ≡ false → n ≡ 0 → ⊥
    not_zero n e is = true≢false (sym (eq-eqb n 0 is) ∙ e)

    fails_found : (i number : ℕ) → i < count → Is32 bytes (base + 8 * i) number → (o : Option ℕ) → place_in number listed ≡ o → Fails (IsJust bytes) (found_at class i o)
    fails_found i number less is None e = fails_with (dex.Member class i) (BadMember (faults.NotDefined class pairs i (base + 8 * i) base number (stands i less) pair_of refl is (none_of number e) refl))
    fails_found i number less is (Some k) e = sound k

    fails_named : (i before : ℕ) → i < count → ((k : ℕ) → i ≡ suc k → Is32 bytes (base + 8 * k) before) → Fails (IsJust bytes) (named_at bytes class size listed base i before)
    unfolding named_at ascends_at
    fails_named i before less good = fails_next (fails_pair i less) (λ pair h. let is = (founds_pair bytes size (base + 8 * i)).found pair h in
        fails_next (unless (dex.Pool (pool.Order table.Members i)) (λ none. let e = neither_of (eqb i 0) (ltb before pair.0) none in order_bad i before pair.0 less good is.number (not_zero i e.0) (ltb-false before pair.0 e.1)) (λ _. sound tt)) (λ order _.
        fails_next (fails_found i pair.0 less is.number (place_in pair.0 listed) refl) (λ found _. sound (found, pair))))

    -- what the offset of a pair leads to
    leads_to : (i before : ℕ) (named : ℕ × (ℕ × ℕ)) → i < count → named_at bytes class size listed base i before ≡ Ok named → 0 < named.1.1 → PairLeads bytes pairs named.1.1
    leads_to i before named less h some = let is = (founds_named bytes class size listed base i before).found named h in
        record { class = class; pair = base + 8 * i; stands = stands i less; offset = named.1.1; is = is.offset; leads = (some, refl) }

    good_next : (i number : ℕ) → Is32 bytes (base + 8 * i) number → (k : ℕ) → suc i ≡ suc k → Is32 bytes (base + 8 * k) number
    good_next i number is k e = let same : i ≡ k = omega (arith, e) in subst (λ (n : ℕ). Is32 bytes (base + 8 * n) number) same is

  -- ---- the three lists

  module _ (p : Program) (m : Members) (size_fields : HasSize bytes 80 (sizes_in p).fields) (size_methods : HasSize bytes 88 (sizes_in p).methods)
      (set : (offset left : ℕ) → (0 < offset → HasSet bytes offset) → Fails (IsJust bytes) (set_at bytes p offset left)) (sets : (offset left : ℕ) → (0 < offset → HasRefs bytes offset) → Fails (IsJust bytes) (sets_at bytes p offset left))
      (no_field : (number : ℕ) → place_in number (m.statics ++ m.instances) ≡ None → (which k : ℕ) (e : Entry) → IsOfKind 0 which → HasEntry bytes class which k e → e.number ≡ number → ⊥)
      (no_method : (number : ℕ) → place_in number (m.directs ++ m.virtuals) ≡ None → (which k : ℕ) (e : Entry) → IsOfKind 1 which → HasEntry bytes class which k e → e.number ≡ number → ⊥) where
    fails_fields : (base count : ℕ) → IsList 0 count base → (fs : List Field) (left : ℕ) → Fails (IsJust bytes) (steps (mark_field bytes p class (m.statics ++ m.instances) base) 0 count (fs, (0, left)))
    unfolding mark_field
    fails_fields base count l fs left = fails_steps (mark_field bytes p class (m.statics ++ m.instances) base) (λ i s. (k : ℕ) → i ≡ suc k → Is32 bytes (base + 8 * k) s.1.0)
        (λ i s t good h. let r = (founds_mark_field bytes p class (m.statics ++ m.instances) base i s).found t h in
        good_next 0 count base l (sizes_in p).fields (λ pair is. placed.Annotations (PairField class pair (sizes_in p).fields is size_fields)) (m.statics ++ m.instances) no_field i t.1.0 (subst (Is32 bytes (base + 8 * i)) (sym r.on) r.number))
        count (λ i s less good. fails_next (fails_named 0 count base l (sizes_in p).fields (λ pair is. placed.Annotations (PairField class pair (sizes_in p).fields is size_fields)) (m.statics ++ m.instances) no_field i s.1.0 less good) (λ named h.
        fails_next (set named.1.1 s.1.1 (λ some. places.OfField (leads_to 0 count base l (sizes_in p).fields (λ pair is. placed.Annotations (PairField class pair (sizes_in p).fields is size_fields)) (m.statics ++ m.instances) no_field i s.1.0 named less h some))) (λ marks _.
        sound (change_at (with_marks marks.0) named.0 s.0, (named.1.0, marks.1)))))
        0 count (fs, (0, left)) (omega arith) (λ k e. absurd cc)

    fails_methods : (base count : ℕ) → IsList 1 count base → (ms : List Method) (left : ℕ) → Fails (IsJust bytes) (steps (mark_method bytes p class (m.directs ++ m.virtuals) base) 0 count (ms, (0, left)))
    unfolding mark_method
    fails_methods base count l ms left = fails_steps (mark_method bytes p class (m.directs ++ m.virtuals) base) (λ i s. (k : ℕ) → i ≡ suc k → Is32 bytes (base + 8 * k) s.1.0)
        (λ i s t good h. let r = (founds_mark_method bytes p class (m.directs ++ m.virtuals) base i s).found t h in
        good_next 1 count base l (sizes_in p).methods (λ pair is. placed.Annotations (PairMethod class pair (sizes_in p).methods is size_methods)) (m.directs ++ m.virtuals) no_method i t.1.0 (subst (Is32 bytes (base + 8 * i)) (sym r.on) r.number))
        count (λ i s less good. fails_next (fails_named 1 count base l (sizes_in p).methods (λ pair is. placed.Annotations (PairMethod class pair (sizes_in p).methods is size_methods)) (m.directs ++ m.virtuals) no_method i s.1.0 less good) (λ named h.
        fails_next (set named.1.1 s.1.1 (λ some. places.OfMethod (leads_to 1 count base l (sizes_in p).methods (λ pair is. placed.Annotations (PairMethod class pair (sizes_in p).methods is size_methods)) (m.directs ++ m.virtuals) no_method i s.1.0 named less h some))) (λ marks _.
        sound (change_at (with_own_marks marks.0) named.0 s.0, (named.1.0, marks.1)))))
        0 count (ms, (0, left)) (omega arith) (λ k e. absurd cc)

    fails_parameters : (base count : ℕ) → IsList 2 count base → (ms : List Method) (left : ℕ) → Fails (IsJust bytes) (steps (mark_parameters bytes p class (m.directs ++ m.virtuals) base) 0 count (ms, (0, left)))
    unfolding mark_parameters
    fails_parameters base count l ms left = fails_steps (mark_parameters bytes p class (m.directs ++ m.virtuals) base) (λ i s. (k : ℕ) → i ≡ suc k → Is32 bytes (base + 8 * k) s.1.0)
        (λ i s t good h. let r = (founds_mark_parameters bytes p class (m.directs ++ m.virtuals) base i s).found t h in
        good_next 2 count base l (sizes_in p).methods (λ pair is. placed.Annotations (PairParameters class pair (sizes_in p).methods is size_methods)) (m.directs ++ m.virtuals) no_method i t.1.0 (subst (Is32 bytes (base + 8 * i)) (sym r.on) r.number))
        count (λ i s less good. fails_next (fails_named 2 count base l (sizes_in p).methods (λ pair is. placed.Annotations (PairParameters class pair (sizes_in p).methods is size_methods)) (m.directs ++ m.virtuals) no_method i s.1.0 less good) (λ named h.
        fails_next (sets named.1.1 s.1.1 (λ some. leads_to 2 count base l (sizes_in p).methods (λ pair is. placed.Annotations (PairParameters class pair (sizes_in p).methods is size_methods)) (m.directs ++ m.virtuals) no_method i s.1.0 named less h some)) (λ marks _.
        sound (change_at (with_parameter_marks marks.0) named.0 s.0, (named.1.0, marks.1)))))
        0 count (ms, (0, left)) (omega arith) (λ k e. absurd cc)

    -- all three behind the directory's own set
    fails_lists : (set_offset : ℕ) → Is32 bytes at set_offset → at + (16 + 8 * fields + 8 * methods + 8 * parameters) ≤ length bytes → (fs : List Field) (ms : List Method) (left : ℕ)
        → Fails (IsJust bytes) (set_at bytes p set_offset left >>= λ marks. steps (mark_field bytes p class (m.statics ++ m.instances) (at + 16)) 0 fields (fs, (0, marks.1)) >>= λ own_fields.
        steps (mark_method bytes p class (m.directs ++ m.virtuals) (at + 16 + 8 * fields)) 0 methods (ms, (0, own_fields.1.1)) >>= λ own.
        steps (mark_parameters bytes p class (m.directs ++ m.virtuals) (at + 16 + 8 * fields + 8 * methods)) 0 parameters (own.0, (0, own.1.1)) >>= λ all. Ok (marked marks.0 own_fields.0 all.0 all.1.1))
    fails_lists set_offset is whole fs ms left =
        fails_next (set set_offset left (λ some. places.OfClass class at set_offset directory is (some, refl))) (λ marks _.
        fails_next (fails_fields (at + 16) fields (record { first = omega arith; inside = λ i less. omega (arith, less); room = omega (arith, whole) }) fs marks.1) (λ own_fields _.
        fails_next (fails_methods (at + 16 + 8 * fields) methods (record { first = omega arith; inside = λ i less. ((omega arith), omega (arith, less)); room = omega (arith, whole) }) ms own_fields.1.1) (λ own _.
        fails_next (fails_parameters (at + 16 + 8 * fields + 8 * methods) parameters (record { first = omega arith; inside = λ i less. ((omega arith), omega (arith, less)); room = omega (arith, whole) }) own.0 own.1.1) (λ all _.
        sound (marked marks.0 own_fields.0 all.0 all.1.1)))))

module _ (bytes : List ℕ) (class : ℕ) (def : Def) (has_def : HasDef bytes class def) (at : ℕ) (leads : Leads def.annotations at) (p : Program) (m : Members)
    (size_fields : HasSize bytes 80 (sizes_in p).fields) (size_methods : HasSize bytes 88 (sizes_in p).methods)
    (set : (offset left : ℕ) → (0 < offset → HasSet bytes offset) → Fails (IsJust bytes) (set_at bytes p offset left)) (sets : (offset left : ℕ) → (0 < offset → HasRefs bytes offset) → Fails (IsJust bytes) (sets_at bytes p offset left))
    (no_field : (number : ℕ) → place_in number (m.statics ++ m.instances) ≡ None → (which k : ℕ) (e : Entry) → IsOfKind 0 which → HasEntry bytes class which k e → e.number ≡ number → ⊥)
    (no_method : (number : ℕ) → place_in number (m.directs ++ m.virtuals) ≡ None → (which k : ℕ) (e : Entry) → IsOfKind 1 which → HasEntry bytes class which k e → e.number ≡ number → ⊥) where
  has_directory : HasDirectory bytes class at
  has_directory = record { def = def; has = has_def; leads = leads }

  fails_whole : (fields methods parameters : ℕ) → DirectoryCounts bytes at fields methods parameters → Fails (IsJust bytes) (need_at bytes at (16 + 8 * fields + 8 * methods + 8 * parameters))
  fails_whole fields methods parameters counts = let same : 16 + 8 * (fields + methods + parameters) ≡ 16 + 8 * fields + 8 * methods + 8 * parameters = omega arith in
      fails_need bytes at (16 + 8 * fields + 8 * methods + 8 * parameters) (subst (λ (n : ℕ). IsPlaced bytes (Bytes at n)) same (placed.Annotations (DirectoryWhole class at fields methods parameters has_directory counts)))

  pub fails_directory : (fs : List Field) (ms : List Method) (left : ℕ) → Fails (IsJust bytes) (directory_at bytes p class m at fs ms left)
  unfolding directory_at
  fails_directory fs ms left =
      fails_next (fails_need bytes at 16 (placed.Annotations (DirectoryHead class at has_directory))) (λ u h. let begins : at + 16 ≤ length bytes = (finds_need bytes at 16).found u h in
      fails_next (fails_word bytes at (omega (arith, begins))) (λ set_offset h0.
      fails_next (fails_word bytes (at + 4) (omega (arith, begins))) (λ fields h1.
      fails_next (fails_word bytes (at + 8) (omega (arith, begins))) (λ methods h2.
      fails_next (fails_word bytes (at + 12) (omega (arith, begins))) (λ parameters h3.
      let counts : DirectoryCounts bytes at fields methods parameters = record { is_fields = (finds_word bytes (at + 4)).found fields h1; is_methods = (finds_word bytes (at + 8)).found methods h2; is_parameters = (finds_word bytes (at + 12)).found parameters h3 } in
      fails_next (fails_whole fields methods parameters counts) (λ w g.
      fails_lists bytes class def has_def at leads fields methods parameters counts p m size_fields size_methods set sets no_field no_method set_offset ((finds_word bytes at).found set_offset h0)
      ((finds_need bytes at (16 + 8 * fields + 8 * methods + 8 * parameters)).found w g) fs ms left))))))
