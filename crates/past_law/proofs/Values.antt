-- What a value or an annotation takes from the items that are left.
use Rattle.std.proofs.Common.{◌≡◌, ◌<◌, inl, inr, ℕ, zero, suc, ◌+◌, ◌/◌, ◌%◌, true, cond, List, [], ◌∷◌, Result, Ok, refl, sym, ap, subst, arith}
use Rattle.std.specs.Prelude.{slice_index, ◌==◌}
use Rattle.std.proofs.lemmas.Bool.{eqb-true}
use Rattle.dex_base.specs.Leb.{IsUlebAt}
use Rattle.dex_base.specs.Reading.{◌>>=◌}
use Rattle.program_model.specs.declared.limits.Counted.TheVariants.{Items}
use Rattle.program_model.specs.declared.value.EncValue.{EncValue}
use Rattle.program_model.specs.declared.value.EncValue.TheVariants as value
use Rattle.program_model.specs.declared.value.Element.{Element}
use Rattle.program_model.specs.declared.value.Note.{Note}
use Rattle.dex_pools.specs.declared.fault.PoolFault.{PoolFault}
use Rattle.dex_pools.specs.declared.fault.PoolFault.TheVariants as pool
use Rattle.dex_pools.specs.declared.fault.Table.TheVariants as table
use Rattle.dex_pools.specs.declared.scalar.TableSizes.{TableSizes}
use Rattle.dex_pools.specs.Value.{most_argument, is_within, counted, array_in, element_in, element_below, note_in, scalar_at, of_kind, value_in, value_at}
use Rattle.dex_pools.proofs.Fields.{finds_number}
use Rattle.dex_defs.specs.Limits.{IsItem, ValueBy, NoteBy}
use Rattle.dex_defs.specs.Limits as limits
use Rattle.dex_defs.specs.Places.{ElementEnds, NoteBegins, Repeat, ElementStands, IsItemOf}
use Rattle.dex_defs.specs.Places as places
use Rattle.dex_defs.specs.Values.{HasTag, tag_at, argument_at, IsValue}
use Rattle.spelled_law.proofs.Values.{founds_value, founds_byte, founds_index, founds_counted, founds_element}
use Rattle.refused_law.proofs.ValueFaults.{ends_of, repeat_more}
use Rattle.past_law.proofs.Names.{root_of, sort_at, owner_at, sort_of, owner_of, Under, deeper, Part, AreApart, own_apart, parts_apart}
use Rattle.past_law.proofs.Plain.{plain_base, plain_byte, plain_number_index, plain_scalar, plain_ascending}
use Rattle.past_law.proofs.Taking.{limit_of_pool, Takes, takes_none, takes_fault, plain_next, takes_next, takes_then, takes_wider, takes_unless, takes_either, takes_or, takes_spend, takes_run}
use Rattle.past_law.proofs.Told.{one}

-- what is counted in a value of this name
abbrev pub InValue : List ℕ → List ℕ → Type 0
InValue way w = Under way 3 (sort_at (root_of way)) (owner_at (root_of way)) w

module _ (bytes : List ℕ) (sizes : TableSizes) where
  -- what a reading of values takes where they have a name
  abbrev pub Counting : ℕ → Type 0
  Counting k = (way : List ℕ) (s : ℕ × ℕ) → ValueBy bytes way s.0 → Takes limit_of_pool Items (IsItem bytes) (InValue way) s.1 (λ (r : EncValue × (ℕ × ℕ)). r.1.1) (value_at k bytes sizes s)

  -- ---- an annotation without its visibility

  element_read : (k i : ℕ) (s : ℕ × ℕ) (x : Element × (ℕ × ℕ)) → element_in (value_at k bytes sizes) bytes sizes i s ≡ Ok x → ElementEnds bytes (places.Ends bytes) s.0 x.1.0
  element_read k i s x h = let is = (founds_element bytes sizes (IsValue bytes sizes k) (value_at k bytes sizes) (founds_value bytes sizes k) i s).found x h in
      record { name = x.0.name; mid = is.mid; is_name = is.name; ends = ends_of bytes sizes k is.mid (x.0.value, x.1.0) is.value }

  module _ (k note : ℕ) (way : List ℕ) (has : NoteBy bytes way note) (child : ℕ → List ℕ) (sort : ℕ) (owner : List ℕ) (apart : AreApart (λ i. 5 ∷ i ∷ way) child)
      (inner : (place element name : ℕ) (t : ℕ × ℕ) → ElementStands bytes note place element → IsUlebAt bytes element (name, t.0)
      → Takes limit_of_pool Items (IsItem bytes) (Under (child place) 3 sort owner) t.1 (λ (r : EncValue × (ℕ × ℕ)). r.1.1) (value_at k bytes sizes t)) where
    abbrev own : ℕ → List ℕ
    own i = 5 ∷ i ∷ way

    takes_element : (count begin : ℕ) → NoteBegins bytes note count begin → (place : ℕ) (s : ℕ × ℕ) → place < count → Repeat (ElementEnds bytes (places.Ends bytes)) place begin s.0
        → Takes limit_of_pool Items (IsItem bytes) (Part own child sort owner place) s.1 (λ (r : Element × (ℕ × ℕ)). r.1.1) (element_in (value_at k bytes sizes) bytes sizes place s)
    unfolding element_in
    takes_element count begin begins place s less behind =
        let stands : ElementStands bytes note place s.0 = record { count = count; begin = begin; begins = begins; inside = less; behind = behind } in
        takes_next (takes_spend Items 1 s.1 (one {A = λ w. w ≡ own place} (own place) (limits.OfNote way note place s.0 has stands) refl)) (λ left _.
        plain_next (plain_number_index bytes s.0 sizes.strings) (λ name h.
        takes_then (inner place s.0 name.0 (name.1, left) stands ((founds_index bytes s.0 sizes.strings).found name h).is) (λ v _.
        takes_none v.1.1 _ (record { name = name.0; value = v.0 }, v.1) (omega arith))))
        (own_apart own child apart sort owner place place) (λ w a. inl a) (λ w b. inr b)

    pub takes_note : (C : List ℕ → Type 0) → ((i : ℕ) (w : List ℕ) → Part own child sort owner i w → C w) → (left : ℕ)
        → Takes limit_of_pool Items (IsItem bytes) C left (λ (r : Note × (ℕ × ℕ)). r.1.1) (note_in (value_at k bytes sizes) bytes sizes (note, left))
    unfolding note_in
    takes_note C to left =
        plain_next (plain_number_index bytes note sizes.types) (λ class h1.
        let is_class = ((founds_index bytes note sizes.types).found class h1).is in
        plain_next (plain_base _) (λ count h2.
        let is_count = (finds_number bytes class.1).found count h2 in
        let begins : NoteBegins bytes note count.0 count.1 = record { kind = class.0; mid = class.1; is_kind = is_class; is_count = is_count } in
        takes_wider (takes_then (takes_run (Part own child sort owner) (parts_apart own child apart sort owner) (element_in (value_at k bytes sizes) bytes sizes) (λ (s : ℕ × ℕ). s.1)
        (λ i s. Repeat (ElementEnds bytes (places.Ends bytes)) i count.1 s.0) (λ i s x good h. repeat_more (ElementEnds bytes (places.Ends bytes)) i count.1 s.0 x.1.0 good (element_read k i s x h)) count.0
        (takes_element count.0 count.1 begins) 0 count.0 (count.1, left) (omega arith) refl) (λ elements _.
        plain_next (plain_ascending element_below table.Members elements.0) (λ order _. takes_none elements.1.1 _ _ (omega arith)))) (λ w o. to o.place w o.is)))

  -- ---- values

  module _ (k : ℕ) (inner : Counting k) (at : ℕ) (way : List ℕ) (has : ValueBy bytes way at) (tag : HasTag bytes at) where
    array_parts : AreApart (λ i. 4 ∷ i ∷ 1 ∷ way) (λ i. 2 ∷ i ∷ way)
    array_parts = record {
      owns = λ i j e. ap (λ (w : List ℕ). slice_index w 1) e;
      children = λ i j e. ap (λ (w : List ℕ). slice_index w 1) e;
      level = λ i j. refl;
      short = λ i j. omega arith;
    }

    note_parts : AreApart (λ i. 5 ∷ i ∷ 1 ∷ way) (λ i. 3 ∷ i ∷ way)
    note_parts = record {
      owns = λ i j e. ap (λ (w : List ℕ). slice_index w 1) e;
      children = λ i j e. ap (λ (w : List ℕ). slice_index w 1) e;
      level = λ i j. refl;
      short = λ i j. omega arith;
    }

    abbrev sort : ℕ
    sort = sort_at (root_of way)

    abbrev owner : List ℕ
    owner = owner_at (root_of way)

    array_in_value : (i : ℕ) (w : List ℕ) → Part (λ i. 4 ∷ i ∷ 1 ∷ way) (λ i. 2 ∷ i ∷ way) sort owner i w → InValue way w
    array_in_value i w (inl e) = record { front = 4 ∷ i ∷ 1 ∷ []; is = e; long = omega arith; has_sort = ap sort_of e; has_owner = ap owner_of e }
    array_in_value i w (inr u) = deeper (2 ∷ i ∷ []) way 3 3 sort owner w (omega arith) u

    note_in_value : (i : ℕ) (w : List ℕ) → Part (λ i. 5 ∷ i ∷ 1 ∷ way) (λ i. 3 ∷ i ∷ way) sort owner i w → InValue way w
    note_in_value i w (inl e) = record { front = 5 ∷ i ∷ 1 ∷ []; is = e; long = omega arith; has_sort = ap sort_of e; has_owner = ap owner_of e }
    note_in_value i w (inr u) = deeper (3 ∷ i ∷ []) way 3 3 sort owner w (omega arith) u

    takes_array : (left : ℕ) → tag_at bytes at ≡ 28 → Takes limit_of_pool Items (IsItem bytes) (InValue way) left (λ (r : List EncValue × (ℕ × ℕ)). r.1.1) (array_in (value_at k bytes sizes) bytes (at + 1, left))
    unfolding array_in
    takes_array left e = plain_next (plain_base _) (λ count h.
        let is_count = (finds_number bytes (at + 1)).found count h in
        takes_wider (takes_run (Part (λ i. 4 ∷ i ∷ 1 ∷ way) (λ i. 2 ∷ i ∷ way) sort owner) (parts_apart (λ i. 4 ∷ i ∷ 1 ∷ way) (λ i. 2 ∷ i ∷ way) array_parts sort owner) (counted (value_at k bytes sizes)) (λ (s : ℕ × ℕ). s.1)
        (λ i s. Repeat (places.Ends bytes) i count.1 s.0)
        (λ i s x good g. repeat_more (places.Ends bytes) i count.1 s.0 x.1.0 good
        (ends_of bytes sizes k s.0 (x.0, x.1.0) ((founds_counted bytes sizes (IsValue bytes sizes k) (value_at k bytes sizes) (founds_value bytes sizes k) i s).found x g))) count.0
        (λ i s less good. let item : IsItemOf bytes (at + 1) i s.0 = places.Item count.0 count.1 is_count less good in
        takes_next (takes_spend Items 1 s.1 (one {A = λ w. w ≡ 4 ∷ i ∷ 1 ∷ way} (4 ∷ i ∷ 1 ∷ way) (limits.OfArray way at i s.0 has tag e item) refl))
        (λ rest _. inner (2 ∷ i ∷ way) (s.0, rest) (limits.InArray way at i s.0 has tag e item))
        (own_apart (λ i. 4 ∷ i ∷ 1 ∷ way) (λ i. 2 ∷ i ∷ way) array_parts sort owner i i) (λ w a. inl a) (λ w b. inr b))
        0 count.0 (count.1, left) (omega arith) refl) (λ w o. array_in_value o.place w o.is))

    takes_inner_note : (left : ℕ) → tag_at bytes at ≡ 29 → Takes limit_of_pool Items (IsItem bytes) (InValue way) left (λ (r : Note × (ℕ × ℕ)). r.1.1) (note_in (value_at k bytes sizes) bytes sizes (at + 1, left))
    takes_inner_note left e = takes_note k (at + 1) (1 ∷ way) (limits.OfValue way at has tag e) (λ i. 3 ∷ i ∷ way) sort owner note_parts
        (λ place element name t stands is. inner (3 ∷ place ∷ way) t (limits.InNote way at place element name t.0 has tag e stands is)) (InValue way) note_in_value left

    abbrev scalar_read : ℕ → Result (EncValue × (ℕ × ℕ)) PoolFault
    scalar_read left = scalar_at bytes sizes at (tag_at bytes at) (argument_at bytes at + 1) >>= λ v. Ok (v, (at + 1 + (argument_at bytes at + 1), left))

    abbrev other_read : ℕ → Result (EncValue × (ℕ × ℕ)) PoolFault
    other_read left = cond (tag_at bytes at == 31) (Ok (value.Bool (argument_at bytes at == 1), (at + 1, left))) (scalar_read left)

    takes_kind : (left : ℕ) → Takes limit_of_pool Items (IsItem bytes) (InValue way) left (λ (r : EncValue × (ℕ × ℕ)). r.1.1) (of_kind (value_at k bytes sizes) bytes sizes (at, left) (tag_at bytes at) (argument_at bytes at))
    takes_kind left = takes_either
        (λ a. takes_then (takes_array left (eqb-true (tag_at bytes at) 28 a)) (λ r _. takes_none r.1.1 _ (value.Array r.0, r.1) (omega arith)))
        (λ a. takes_either
        (λ b. takes_then (takes_inner_note left (eqb-true (tag_at bytes at) 29 b)) (λ r _. takes_none r.1.1 _ (value.Annotation r.0, r.1) (omega arith)))
        (λ b. takes_or (tag_at bytes at == 30) (value.Null, (at + 1, left)) (other_read left) (omega arith)
        (takes_or (tag_at bytes at == 31) (value.Bool (argument_at bytes at == 1), (at + 1, left)) (scalar_read left) (omega arith)
        (plain_next (plain_scalar bytes sizes at (tag_at bytes at) (argument_at bytes at + 1)) (λ v _. takes_none left _ (v, (at + 1 + (argument_at bytes at + 1), left)) (omega arith))))))

  takes_layer : (k : ℕ) → Counting k → (way : List ℕ) (s : ℕ × ℕ) → ValueBy bytes way s.0 → Takes limit_of_pool Items (IsItem bytes) (InValue way) s.1 (λ (r : EncValue × (ℕ × ℕ)). r.1.1) (value_in (value_at k bytes sizes) bytes sizes s)
  unfolding value_in
  takes_layer k inner way s has = plain_next (plain_byte bytes s.0) (λ tag h.
      let b = (founds_byte bytes s.0).found tag h in
      takes_unless (pool.BadValue s.0) refl (λ yes. subst (λ (t : ℕ). Takes limit_of_pool Items (IsItem bytes) (InValue way) s.1 (λ (r : EncValue × (ℕ × ℕ)). r.1.1) (of_kind (value_at k bytes sizes) bytes sizes s (t % 32) (t / 32))) (sym b.is)
      (takes_kind k inner s.0 way has (b.inside, subst (λ (t : ℕ). is_within (t / 32) (most_argument (t % 32)) ≡ true) b.is yes) s.1)))

  pub takes_value : (k : ℕ) → Counting k
  takes_value zero way s has = takes_fault (pool.Deep s.0) refl
  takes_value (suc k) way s has = takes_layer k (takes_value k) way s has
