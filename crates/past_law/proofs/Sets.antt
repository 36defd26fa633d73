-- What a set of annotations, or a list of such sets, takes from the items that are left.
use Rattle.std.proofs.Common.{◌≡◌, ◌<◌, ◌⊎◌, inl, inr, ℕ, zero, suc, ◌+◌, ◌*◌, eqb, false, List, [], ◌∷◌, refl, sym, ap, ◌∙◌, arith}
use Rattle.std.specs.Prelude.{slice_index, ◌==◌}
use Rattle.dex_base.specs.Word.{Is32, u32_at}
use Rattle.program_model.specs.declared.limits.Counted.TheVariants.{Items}
use Rattle.program_model.specs.declared.program.Program.{Program}
use Rattle.program_model.specs.declared.value.Mark.{Mark}
use Rattle.dex_pools.specs.declared.fault.Table.TheVariants as table
use Rattle.dex_pools.specs.declared.scalar.TableSizes.{TableSizes}
use Rattle.dex_pools.specs.Marks.{mark_at, marked_at, mark_below, marks_at, parameter_at, parameters_marks_at}
use Rattle.dex_pools.specs.Value.{whole_note_at}
use Rattle.dex_pools.proofs.Fields.{finds_word}
use Rattle.dex_defs.specs.Limits.{IsItem, SetBy, RefsBy}
use Rattle.dex_defs.specs.Limits as limits
use Rattle.dex_defs.specs.Places.{ListedAt}
use Rattle.dex_read.specs.Directory.{set_at, sets_at}
use Rattle.dex_read.specs.Tables.{sizes_in}
use Rattle.spelled_law.proofs.Values.{founds_count}
use Rattle.past_law.proofs.Names.{sort_of, owner_of, Under, deeper, Part, AreApart, own_apart, parts_apart}
use Rattle.past_law.proofs.Plain.{plain_base, plain_byte, plain_count, plain_ascending}
use Rattle.past_law.proofs.Taking.{limit_of_pool, limit_of_dex, Takes, takes_none, plain_next, takes_next, takes_then, takes_wider, takes_either, takes_raised, takes_spend, takes_run}
use Rattle.past_law.proofs.Told.{one}
use Rattle.past_law.proofs.Values.{takes_note, takes_value}

-- what is counted in the set of this name, and in a list of sets
abbrev pub InSet : List ℕ → List ℕ → Type 0
InSet way w = (sort_of w ≡ 2) × (owner_of w ≡ way)

abbrev pub InRefs : List ℕ → List ℕ → Type 0
InRefs way w = ((sort_of w ≡ 3) × (owner_of w ≡ way)) ⊎ ((i : ℕ) × InSet (i ∷ way) w)

module _ (bytes : List ℕ) (sizes : TableSizes) where
  -- ---- a set

  module _ (way : List ℕ) (at : ℕ) (has : SetBy bytes way at) where
    abbrev entry : ℕ → List ℕ
    entry i = 2 ∷ i ∷ way

    abbrev mark : ℕ → List ℕ
    mark i = i ∷ way

    entries : AreApart entry mark
    entries = record {
      owns = λ i j e. ap (λ (w : List ℕ). slice_index w 1) e;
      children = λ i j e. ap (λ (w : List ℕ). slice_index w 0) e;
      level = λ i j. refl;
      short = λ i j. omega arith;
    }

    elements : (i : ℕ) → AreApart (λ k. 5 ∷ k ∷ 0 ∷ i ∷ way) (λ k. 1 ∷ k ∷ i ∷ way)
    elements i = record {
      owns = λ j k e. ap (λ (w : List ℕ). slice_index w 1) e;
      children = λ j k e. ap (λ (w : List ℕ). slice_index w 1) e;
      level = λ j k. refl;
      short = λ j k. omega arith;
    }

    in_mark : (i k : ℕ) (w : List ℕ) → Part (λ k. 5 ∷ k ∷ 0 ∷ i ∷ way) (λ k. 1 ∷ k ∷ i ∷ way) 2 way k w → Under (mark i) 3 2 way w
    in_mark i k w (inl e) = record { front = 5 ∷ k ∷ 0 ∷ []; is = e; long = omega arith; has_sort = ap sort_of e; has_owner = ap owner_of e }
    in_mark i k w (inr u) = deeper (1 ∷ k ∷ []) (i ∷ way) 3 3 2 way w (omega arith) u

    in_set : (i : ℕ) (w : List ℕ) → Part entry mark 2 way i w → InSet way w
    in_set i w (inl e) = (ap sort_of e, ap owner_of e)
    in_set i w (inr u) = (u.has_sort, u.has_owner)

    takes_mark : (i offset left : ℕ) → ListedAt bytes at i offset → Takes limit_of_pool Items (IsItem bytes) (Under (mark i) 3 2 way) left (λ (r : Mark × ℕ). r.1) (mark_at bytes sizes offset left)
    unfolding mark_at whole_note_at
    takes_mark i offset left listed = plain_next (plain_byte bytes offset) (λ visibility _.
        takes_then (takes_note bytes sizes 64 (offset + 1) (0 ∷ i ∷ way) (limits.OfSet way at i offset has listed) (λ k. 1 ∷ k ∷ i ∷ way) 2 way (elements i)
        (λ k element name t stands is. takes_value bytes sizes 64 (1 ∷ k ∷ i ∷ way) t (limits.OfMark way at i offset k element name t.0 has listed stands is)) (Under (mark i) 3 2 way) (in_mark i) left) (λ note _.
        takes_none note.1.1 _ (record { visibility = visibility; note = note.0 }, note.1.1) (omega arith)))

    takes_marked : (count i left : ℕ) → Is32 bytes at count → i < count → Takes limit_of_pool Items (IsItem bytes) (Part entry mark 2 way i) left (λ (r : Mark × ℕ). r.1) (marked_at bytes sizes at i left)
    unfolding marked_at
    takes_marked count i left is less =
        takes_next (takes_spend Items 1 left (one {A = λ w. w ≡ entry i} (entry i) (limits.OfSet way at count i has is less) refl)) (λ rest _.
        plain_next (plain_base (u32_at bytes (at + 4 + 4 * i))) (λ offset h.
        takes_mark i offset rest (record { count = count; is_count = is; inside = less; is = (finds_word bytes (at + 4 + 4 * i)).found offset h })))
        (own_apart entry mark entries 2 way i i) (λ w a. inl a) (λ w b. inr b)

    pub takes_marks : (left : ℕ) → Takes limit_of_pool Items (IsItem bytes) (InSet way) left (λ (r : List Mark × ℕ). r.1) (marks_at bytes sizes at left)
    unfolding marks_at
    takes_marks left = plain_next (plain_count bytes at 4) (λ count h.
        takes_wider (takes_then (takes_run (Part entry mark 2 way) (parts_apart entry mark entries 2 way) (marked_at bytes sizes at) (λ s. s) (λ i s. Unit {0}) (λ i s x good g. tt) count
        (λ i s less good. takes_marked count i s ((founds_count bytes at 4).found count h) less) 0 count left (omega arith) tt) (λ marks _.
        plain_next (plain_ascending mark_below table.Members marks.0) (λ order _. takes_none marks.1 _ marks (omega arith)))) (λ w o. in_set o.place w o.is))

  -- ---- a list of sets

  module _ (way : List ℕ) (at : ℕ) (has : RefsBy bytes way at) where
    abbrev InRef : ℕ → List ℕ → Type 0
    InRef i w = (w ≡ 3 ∷ i ∷ way) ⊎ InSet (i ∷ way) w

    not_both_sorts : (w : List ℕ) → sort_of w ≡ 3 → sort_of w ≡ 2 → ⊥
    not_both_sorts w a b = omega (arith, a, b)

    refs_apart : (i j : ℕ) (w : List ℕ) → InRef i w → InRef j w → i ≡ j
    refs_apart i j w (inl a) (inl b) = ap (λ (w : List ℕ). slice_index w 1) (sym a ∙ b)
    refs_apart i j w (inl a) (inr b) = absurd (not_both_sorts w (ap sort_of a) b.0)
    refs_apart i j w (inr a) (inl b) = absurd (not_both_sorts w (ap sort_of b) a.0)
    refs_apart i j w (inr a) (inr b) = ap (λ (w : List ℕ). slice_index w 0) (sym a.1 ∙ b.1)

    in_refs : (i : ℕ) (w : List ℕ) → InRef i w → InRefs way w
    in_refs i w (inl e) = inl (ap sort_of e, ap owner_of e)
    in_refs i w (inr h) = inr (i, h)

    positive : (n : ℕ) → (n == 0) ≡ false → 0 < n
    positive zero e = absurd cc
    positive (suc n) e = omega arith

    takes_parameter : (count i left : ℕ) → Is32 bytes at count → i < count → Takes limit_of_pool Items (IsItem bytes) (InRef i) left (λ (r : List Mark × ℕ). r.1) (parameter_at bytes sizes at i left)
    unfolding parameter_at
    takes_parameter count i left is less =
        takes_next (takes_spend Items 1 left (one {A = λ w. w ≡ 3 ∷ i ∷ way} (3 ∷ i ∷ way) (limits.OfRefs way at count i has is less) refl)) (λ rest _.
        plain_next (plain_base (u32_at bytes (at + 4 + 4 * i))) (λ offset h.
        takes_either (λ e. takes_none rest _ ([], rest) (omega arith)) (λ e.
        takes_marks (i ∷ way) offset (limits.OfParameter way at i offset offset has (record { count = count; is_count = is; inside = less; is = (finds_word bytes (at + 4 + 4 * i)).found offset h }) (positive offset e, refl)) rest)))
        (λ w a b. not_both_sorts w (ap sort_of a) b.0) (λ w a. inl a) (λ w b. inr b)

    pub takes_parameters : (left : ℕ) → Takes limit_of_pool Items (IsItem bytes) (InRefs way) left (λ (r : List (List Mark) × ℕ). r.1) (parameters_marks_at bytes sizes at left)
    unfolding parameters_marks_at
    takes_parameters left = plain_next (plain_count bytes at 4) (λ count h.
        takes_wider (takes_run InRef refs_apart (parameter_at bytes sizes at) (λ s. s) (λ i s. Unit {0}) (λ i s x good g. tt) count
        (λ i s less good. takes_parameter count i s ((founds_count bytes at 4).found count h) less) 0 count left (omega arith) tt) (λ w o. in_refs o.place w o.is))

-- ---- by an offset that may be 0

positive_of : (n : ℕ) → eqb n 0 ≡ false → 0 < n
positive_of zero e = absurd cc
positive_of (suc n) e = omega arith

pub takes_set : (bytes : List ℕ) (p : Program) (way : List ℕ) (offset left : ℕ) → (0 < offset → SetBy bytes way offset) → Takes limit_of_dex Items (IsItem bytes) (InSet way) left (λ (r : List Mark × ℕ). r.1) (set_at bytes p offset left)
unfolding set_at
takes_set bytes p way offset left has = takes_either (λ e. takes_none left _ ([], left) (omega arith)) (λ e. takes_raised (takes_marks bytes (sizes_in p) way offset (has (positive_of offset e)) left))

pub takes_sets : (bytes : List ℕ) (p : Program) (way : List ℕ) (offset left : ℕ) → (0 < offset → RefsBy bytes way offset) → Takes limit_of_dex Items (IsItem bytes) (InRefs way) left (λ (r : List (List Mark) × ℕ). r.1) (sets_at bytes p offset left)
unfolding sets_at
takes_sets bytes p way offset left has = takes_either (λ e. takes_none left _ ([], left) (omega arith)) (λ e. takes_raised (takes_parameters bytes (sizes_in p) way offset (has (positive_of offset e)) left))
