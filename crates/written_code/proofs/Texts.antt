-- The writer's code item is the text of the definition.
use Rattle.std.proofs.Common.{◌≡◌, ◌<◌, ◌≤◌, ◌+◌, ◌*◌, ◌-◌, ◌%◌, ◌^◌, inl, inr, ℕ, zero, suc, min, max, pos, negsuc, ◌-ℤ◌, Bool, true, false, List, [], ◌∷◌, ◌++◌, length, map, replicate, Option, Some, None, refl, sym, ap, subst, ◌∙◌, arith, append_assoc, append-nil, length-append}
use Rattle.std.specs.Prelude.{slice_index, slice_index_or, is_some, nat_eq, if◌then◌else◌}
use Rattle.std.specs.Int.{w32, to_le_bytes}
use Rattle.std.specs.List.{AllByRecursion, flat_map, concat}
use Rattle.std.proofs.lemmas.Int.{ints}
use Rattle.std.proofs.lemmas.Bool.{ne_eqb, eqb-true, eqb-false, cases_lt}
use Rattle.std.proofs.lemmas.List.{length-map}
use Rattle.dex_base.specs.Leb.{uleb_text, sleb_text}
use Rattle.insn_set.specs.Spelling.{is_encodable}
use Rattle.insn_set.specs.declared.form.Insn.{Insn}
use Rattle.insn_set.specs.declared.form.Insn.TheVariants.{Invoke}
use Rattle.program_model.specs.declared.pass.Renumber.{Renumber}
use Rattle.program_model.specs.declared.body.Handler.{Handler}
use Rattle.program_model.specs.declared.body.Region.{Region}
use Rattle.program_model.specs.declared.body.Body.{Body}
use Rattle.relax.specs.declared.layout.Layout.{Layout}
use Rattle.relax.specs.Layouts.{IsLaidOut}
use Rattle.relax.specs.Sizes.{start}
use Rattle.relax.specs.Payloads.{capped_place, payload_places, payload_end}
use Rattle.relax.proofs.Starts.{start_mono}
use Rattle.code_write.specs.Units.{unit_bytes, pad_to_even, low, high}
use Rattle.code_write.specs.Code.{Spots, spots_of, place_at}
use Rattle.code_write.specs.Payloads.{with_payloads}
use Rattle.code_write.specs.Handlers as lists
use Rattle.code_write.specs.Handlers.{list_size, pair_text, handlers_text}
use Rattle.code_write.specs.Tries as tries
use Rattle.code_write.specs.Lists as order
use Rattle.code_write.specs.Lists.{all_lists, count_text, list_offsets}
use Rattle.code_write.specs.Items as items
use Rattle.code_write.specs.Items.{header_units, outs_of, code_end, gap_behind, front_text, tail_text, code_item}
use Rattle.dex_pools.specs.Written.{renumbered}
use Rattle.dex_write.specs.Numbers.{words}
use Rattle.dex_write.specs.Codes.{with_debug}
use Rattle.dex_defs.specs.LaysOut.{minus, size_text, handler_text, rest_text, catches_text, distinct, by_length, written_lists, begins_from}
use Rattle.dex_defs.specs.CodeTexts.{two_units, payloads_text, most_passed, words_passed, frame_units, gap_units, covered, lists_text, list_offset, place_of, try_units, tries_text, code_text}
use Rattle.dex_defs.specs.Written.{new_insn, new_handler, new_region, new_body}
use Rattle.written_code.proofs.Forms.{Renamed}
use Rattle.written_code.proofs.Bodies.{AllFine}
use Rattle.written_code.proofs.Units.{Placed, Left, bytes_append, bytes_twice, code_bytes, payloads_bytes, end_is, padded}
use Rattle.written_code.proofs.Sorted.{same_lists, lists_differ, none_differ, offsets_are, lists_same}
use Rattle.written_code.proofs.Handlers.{FitRegion}
use Rattle.written_code.proofs.Frames.{FitBody, texts_of, units_of_body, texts_end, units_count, units_same, word_is}
use Rattle.written_code.proofs.Fitting.{call_few, sorted_many}

-- ---- the layout

index_got : (xs : List ℕ) (k d v : ℕ) → k < length xs → slice_index xs k ≡ v → slice_index_or xs k d ≡ v
index_got [] k d v lt e = absurd (omega (arith, lt))
index_got (x ∷ xs) zero d v lt e = e
index_got (x ∷ xs) (suc k) d v lt e = index_got xs k d v (omega (arith, lt)) e

index_past : (xs : List ℕ) (k d : ℕ) → length xs ≤ k → slice_index_or xs k d ≡ d
index_past [] k d le = refl
index_past (x ∷ xs) zero d le = absurd (omega (arith, le))
index_past (x ∷ xs) (suc k) d le = index_past xs k d (omega (arith, le))

module _ (r : Renumber) (types : ℕ) (b : Body) (layout : Layout) (laid : IsLaidOut r b layout) (f : FitBody r laid.sizes types b) where
  abbrev sizes : List ℕ
  sizes = laid.sizes

  abbrev s : Spots
  s = spots_of layout

  abbrev end : ℕ
  end = start sizes (length sizes)

  low_end : end < 2 ^ 31
  low_end = omega (arith, f.room)

  starts_long : length s.starts ≡ length sizes
  starts_long = laid.long ∙ sym f.long

  placed : Placed s sizes
  placed k lt =
      let at : slice_index s.starts k ≡ capped_place (start sizes k) = laid.starts k (omega (arith, lt, f.long)) in
      let small : capped_place (start sizes k) ≡ start sizes k = omega (arith, start_mono sizes k (length sizes) (omega (arith, lt)), low_end) in
      index_got s.starts k s.size (start sizes k) (omega (arith, lt, starts_long)) (at ∙ small)

  -- the same with another end, which stands for the position behind the last
  at_end : (k e : ℕ) → k ≤ length sizes → e ≡ end → place_at s.starts e k ≡ start sizes k
  at_end k e le same = by (nat_eq k (length sizes)) refl
    where
      by : (t : Bool) → nat_eq k (length sizes) ≡ t → place_at s.starts e k ≡ start sizes k
      by true g = let is : k ≡ length sizes = eqb-true k (length sizes) g in index_past s.starts k e (omega (arith, is, starts_long)) ∙ (same ∙ ap (λ (n : ℕ). start sizes n) (sym is))
      by false g =
          let lt : k < length sizes = less k (length sizes) le (eqb-false k (length sizes) g) in
          let at : slice_index s.starts k ≡ capped_place (start sizes k) = laid.starts k (omega (arith, lt, f.long)) in
          let small : capped_place (start sizes k) ≡ start sizes k = omega (arith, start_mono sizes k (length sizes) (omega (arith, lt)), low_end) in
          index_got s.starts k e (start sizes k) (omega (arith, lt, starts_long)) (at ∙ small)
        where
          less : (a b : ℕ) → a ≤ b → (a ≡ b → ⊥) → a < b
          less a b le ne = elim (cases_lt a b) [ inl lt ↦ lt | inr ge ↦ absurd (ne (omega (arith, le, ge))) ]

  left : Left s 0 end b.insns
  left = record { front = []; is = laid.payloads ∙ ap (λ (n : ℕ). payload_places (start sizes n) b.insns) (sym f.long); long = refl }

  size_is : s.size ≡ length (units_of_body r sizes b)
  size_is =
      let all : payload_end end b.insns ≡ end + length (payloads_text sizes end 0 b.insns) = end_is r s sizes 0 0 end b.insns placed f.fine left f.room in
      let same : payload_end (start sizes (length b.insns)) b.insns ≡ payload_end end b.insns = ap (λ (n : ℕ). payload_end (start sizes n) b.insns) (sym f.long) in
      laid.size ∙ (ap capped_place (same ∙ all) ∙ omega (arith, f.room, units_count r sizes types b f))

  -- ---- the header and the units

  abbrev H : List ℕ
  H = unit_bytes (header_units b (outs_of b.insns) s.size 0)

  front_is : front_text r b s 0 ≡ H ++ unit_bytes (concat (texts_of r sizes b))
  front_is = ap (λ (l : List ℕ). H ++ l) (code_bytes r s sizes 0 0 end b.insns placed (omega (arith, f.long)) f.fine left f.room)

  front_long : length (front_text r b s 0) ≡ 16 + 2 * end
  front_long = ap (λ (l : List ℕ). length l) front_is ∙ (length-append H (unit_bytes (concat (texts_of r sizes b))) ∙ omega (arith, bytes_twice (header_units b (outs_of b.insns) s.size 0), bytes_twice (concat (texts_of r sizes b)), texts_end r sizes types b f))

  end_is_there : code_end (length (front_text r b s 0)) ≡ end
  end_is_there = omega (arith, front_long, low_end)

  whole_is : with_payloads s (front_text r b s 0) 0 b.insns ≡ H ++ unit_bytes (units_of_body r sizes b)
  whole_is =
      let ps : List ℕ = payloads_text sizes end 0 b.insns in
      payloads_bytes r s sizes (front_text r b s 0) 0 end b.insns placed (omega (arith, f.long)) f.fine front_long f.room
      ∙ (ap (λ (l : List ℕ). l ++ unit_bytes ps) front_is ∙ (append_assoc H (unit_bytes (concat (texts_of r sizes b))) (unit_bytes ps) ∙ ap (λ (l : List ℕ). H ++ l) (sym (bytes_append (concat (texts_of r sizes b)) ps))))

  map_many : (xs : List Region) → length (map (new_region r) xs) ≡ length xs
  map_many [] = refl
  map_many (x ∷ xs) = ap suc (map_many xs)

  gap_is : (rs : List Region) → gap_behind (length rs) (H ++ unit_bytes (units_of_body r sizes b)) ≡ H ++ unit_bytes (units_of_body r sizes b ++ gap_units (map (new_region r) rs) (units_of_body r sizes b))
  gap_is [] = ap (λ (l : List ℕ). H ++ unit_bytes l) (sym (append-nil (units_of_body r sizes b)))
  gap_is (x ∷ xs) =
      let us : List ℕ = units_of_body r sizes b in
      let zeros : List ℕ = replicate (length us % 2) 0 in
      let long : length (H ++ unit_bytes us) ≡ 16 + 2 * length us = length-append H (unit_bytes us) ∙ omega (arith, bytes_twice (header_units b (outs_of b.insns) s.size 0), bytes_twice us) in
      ap (λ (t : Bool). if t then H ++ unit_bytes us else pad_to_even (H ++ unit_bytes us)) (ne_eqb (length (x ∷ xs)) 0 (λ z. omega (arith, z))) ∙ (padded (H ++ unit_bytes us) (length us) long ∙ (append_assoc H (unit_bytes us) (unit_bytes zeros) ∙ ap (λ (l : List ℕ). H ++ l) (sym (bytes_append us zeros))))

  -- ---- how many words calls pass

  outs_same : (at : ℕ) (xs : List Insn) → AllFine r sizes at xs → outs_of xs ≡ most_passed (map (new_insn r) xs)
  outs_same at [] g = refl
  outs_same at (x ∷ xs) g = ap (λ (n : ℕ). max n (outs_of xs)) (passed_same x g.0.enc) ∙ ap (λ (n : ℕ). max (words_passed (new_insn r x)) n) (outs_same (suc at) xs g.1)
    where
      passed_same : (x : Insn) → is_encodable x ≡ true → items.words_passed x ≡ words_passed (new_insn r x)
      passed_same (Invoke kind n args) e = omega (arith, call_few args e)
      passed_same x e = refl

  -- ---- lists of handlers

  pairs_same : (hs : List Handler) → AllByRecursion (λ h. Renamed r.types.items h.kind 65536) hs → AllByRecursion (λ h. (h.kind < types) × (h.position < length sizes)) (map (new_handler r) hs) → flat_map (pair_text r.types.items s.starts end) hs ≡ flat_map (handler_text sizes) (map (new_handler r) hs)
  pairs_same [] n a = refl
  pairs_same (h ∷ hs) n a =
      ap (λ (k : ℕ). (uleb_text k ++ uleb_text (place_at s.starts end h.position)) ++ flat_map (pair_text r.types.items s.starts end) hs) n.0.same
      ∙ (ap (λ (k : ℕ). (uleb_text (renumbered r.types.items h.kind) ++ uleb_text k) ++ flat_map (pair_text r.types.items s.starts end) hs) (at_end h.position end (omega (arith, a.0.1)) refl)
      ∙ ap (λ (l : List ℕ). (uleb_text (renumbered r.types.items h.kind) ++ uleb_text (start sizes h.position)) ++ l) (pairs_same hs n.1 a.1))

  rest_same : (o : Option ℕ) → ((position : ℕ) → o ≡ Some position → position < length sizes) → lists.rest_text s.starts end o ≡ rest_text sizes o
  rest_same None g = refl
  rest_same (Some n) g = ap (λ (k : ℕ). uleb_text k) (at_end n end (omega (arith, g n refl)) refl)

  size_same : (x : Region) → length x.handlers < 2 ^ 31 → sleb_text (list_size (length x.handlers) (is_some x.rest)) ≡ size_text (new_region r x)
  size_same x few = by x.rest refl
    where
      many : length (map (new_handler r) x.handlers) ≡ length x.handlers
      many = length-map x.handlers (new_handler r)

      capped : min (length x.handlers) 2147483647 ≡ length x.handlers
      capped = omega (arith, few)

      minus_is : (n : ℕ) → (pos 0 -ℤ pos n) ≡ minus n
      minus_is zero = refl
      minus_is (suc n) = let e : (pos 0 -ℤ pos (suc n)) ≡ negsuc n = omega (arith, ints) in e

      by : (o : Option ℕ) → x.rest ≡ o → sleb_text (list_size (length x.handlers) (is_some x.rest)) ≡ size_text (new_region r x)
      by None e =
          ap (λ (o : Option ℕ). sleb_text (list_size (length x.handlers) (is_some o))) e
          ∙ (ap (λ (n : ℕ). sleb_text (pos n)) (capped ∙ sym many) ∙ ap (λ (o : Option ℕ). elim o [ None ↦ sleb_text (pos (length (map (new_handler r) x.handlers))) | Some rest ↦ sleb_text (minus (length (map (new_handler r) x.handlers))) ]) (sym e))
      by (Some n) e =
          ap (λ (o : Option ℕ). sleb_text (list_size (length x.handlers) (is_some o))) e
          ∙ (ap sleb_text (ap (λ (n : ℕ). pos 0 -ℤ pos n) (capped ∙ sym many) ∙ minus_is (length (map (new_handler r) x.handlers))) ∙ ap (λ (o : Option ℕ). elim o [ None ↦ sleb_text (pos (length (map (new_handler r) x.handlers))) | Some rest ↦ sleb_text (minus (length (map (new_handler r) x.handlers))) ]) (sym e))

  -- what the handlers of a region are asked for
  abbrev NamedHandlers : Region → Type 0
  NamedHandlers x = AllByRecursion (λ h. Renamed r.types.items h.kind 65536) x.handlers

  one_list : (x : Region) → NamedHandlers x → FitRegion sizes types (new_region r x) → handlers_text r s.starts end x ≡ catches_text sizes (new_region r x)
  one_list x n fit =
      let few : length x.handlers < 2 ^ 31 = omega (arith, fit.few, length-map x.handlers (new_handler r)) in
      let hs : List ℕ = flat_map (handler_text sizes) (map (new_handler r) x.handlers) in
      ap (λ (l : List ℕ). l ++ (flat_map (pair_text r.types.items s.starts end) x.handlers ++ lists.rest_text s.starts end x.rest)) (size_same x few)
      ∙ (ap (λ (l : List ℕ). size_text (new_region r x) ++ (l ++ lists.rest_text s.starts end x.rest)) (pairs_same x.handlers n fit.handlers)
      ∙ (ap (λ (l : List ℕ). size_text (new_region r x) ++ (hs ++ l)) (rest_same x.rest fit.rest) ∙ sym (append_assoc (size_text (new_region r x)) hs (rest_text sizes x.rest))))

  all_lists_same : (xs : List Region) → AllByRecursion NamedHandlers xs → AllByRecursion (FitRegion sizes types) (map (new_region r) xs) → map (handlers_text r s.starts end) xs ≡ map (catches_text sizes) (map (new_region r) xs)
  all_lists_same [] n a = refl
  all_lists_same (x ∷ xs) n a = ap (λ (t : List ℕ). t ∷ map (handlers_text r s.starts end) xs) (one_list x n.0 a.0) ∙ ap (λ (l : List (List ℕ)). catches_text sizes (new_region r x) ∷ l) (all_lists_same xs n.1 a.1)

  -- ---- try items

  one_try : (all : List Region) (x : Region) → FitRegion sizes types (new_region r x) → list_offset sizes all (new_region r x) < 65536 → tries.try_units s.starts end x (list_offset sizes all (new_region r x)) ≡ try_units sizes all (new_region r x)
  one_try all x fit few =
      let first : place_at s.starts end x.first ≡ start sizes x.first = at_end x.first end (omega (arith, fit.some, fit.inside)) refl in
      let last : place_at s.starts end x.end ≡ start sizes x.end = at_end x.end end fit.inside refl in
      let offset : min (list_offset sizes all (new_region r x)) 65535 ≡ list_offset sizes all (new_region r x) = omega (arith, few) in
      let size : min (start sizes x.end - start sizes x.first) 65535 ≡ covered sizes (new_region r x) = omega arith in
      ap (λ (k : ℕ). low k ∷ high k ∷ tries.short (place_at s.starts end x.end - k) ∷ tries.short (list_offset sizes all (new_region r x)) ∷ []) first
      ∙ (ap (λ (k : ℕ). low (start sizes x.first) ∷ high (start sizes x.first) ∷ tries.short (k - start sizes x.first) ∷ tries.short (list_offset sizes all (new_region r x)) ∷ []) last
      ∙ (ap (λ (k : ℕ). low (start sizes x.first) ∷ high (start sizes x.first) ∷ k ∷ tries.short (list_offset sizes all (new_region r x)) ∷ []) size
      ∙ ap (λ (k : ℕ). low (start sizes x.first) ∷ high (start sizes x.first) ∷ covered sizes (new_region r x) ∷ k ∷ []) offset))

  all_tries : (all xs : List Region) → AllByRecursion (FitRegion sizes types) (map (new_region r) xs) → AllByRecursion (λ x. list_offset sizes all x < 65536) (map (new_region r) xs)
      → tries.tries_text s.starts end xs (map (list_offset sizes all) (map (new_region r) xs)) ≡ unit_bytes (flat_map (try_units sizes all) (map (new_region r) xs))
  all_tries all [] a o = refl
  all_tries all (x ∷ xs) a o =
      ap (λ (us : List ℕ). unit_bytes us ++ tries.tries_text s.starts end xs (map (list_offset sizes all) (map (new_region r) xs))) (one_try all x a.0 o.0)
      ∙ (ap (λ (l : List ℕ). unit_bytes (try_units sizes all (new_region r x)) ++ l) (all_tries all xs a.1 o.1) ∙ sym (bytes_append (try_units sizes all (new_region r x)) (flat_map (try_units sizes all) (map (new_region r) xs))))

  offsets_same : (all : List Region) → length (written_lists sizes all) < 2 ^ 32 → list_offsets (map (catches_text sizes) all) ≡ map (list_offset sizes all) all
  offsets_same all few =
      let ts : List (List ℕ) = map (catches_text sizes) all in
      let lists_ : List (List ℕ) = all_lists [] ts in
      let are : lists_ ≡ distinct [] ts = same_lists [] ts in
      let count : count_text lists_ ≡ uleb_text (length (written_lists sizes all)) = ap uleb_text (omega (arith, few, sorted_many [] (distinct [] ts), ap (λ (l : List (List ℕ)). length l) are)) in
      offsets_are lists_ [] ts refl (lists_differ [] ts none_differ)
      ∙ (ap (λ (l : List (List ℕ)). map (λ t. place_of (by_length [] l) (begins_from (length (count_text lists_)) (by_length [] l)) t) ts) are
      ∙ (ap (λ (c : List ℕ). map (λ t. place_of (written_lists sizes all) (begins_from (length c) (written_lists sizes all)) t) ts) count ∙ map_twice all))
    where
      map_twice : (xs : List Region) → map (λ t. place_of (written_lists sizes all) (begins_from (length (uleb_text (length (written_lists sizes all)))) (written_lists sizes all)) t) (map (catches_text sizes) xs) ≡ map (list_offset sizes all) xs
      map_twice [] = refl
      map_twice (x ∷ xs) = ap (λ (l : List ℕ). list_offset sizes all x ∷ l) (map_twice xs)

  tail_same : (xs : List Region) → b.regions ≡ xs → AllByRecursion NamedHandlers xs → tail_text r s end xs ≡ tries_text sizes (map (new_region r) xs)
  tail_same [] e n = refl
  tail_same (x ∷ xs) e n =
      let all : List Region = map (new_region r) (x ∷ xs) in
      let fit : AllByRecursion (FitRegion sizes types) all = subst (λ l. AllByRecursion (FitRegion sizes types) (map (new_region r) l)) e f.regions in
      let offs : AllByRecursion (λ y. list_offset sizes all y < 65536) all = subst (λ l. AllByRecursion (λ y. list_offset sizes (map (new_region r) l) y < 65536) (map (new_region r) l)) e f.offsets in
      let few : length (written_lists sizes all) < 2 ^ 32 = subst (λ l. length (written_lists sizes (map (new_region r) l)) < 2 ^ 32) e f.lists in
      let ts : List (List ℕ) = map (catches_text sizes) all in
      let texts_are : map (handlers_text r s.starts end) (x ∷ xs) ≡ ts = all_lists_same (x ∷ xs) n fit in
      let few_lists : length (distinct [] ts) < 2 ^ 32 = omega (arith, few, sorted_many [] (distinct [] ts)) in
      ap (λ (t : Bool). if t then [] else tries.tries_text s.starts end (x ∷ xs) (list_offsets (map (handlers_text r s.starts end) (x ∷ xs))) ++ order.lists_text (map (handlers_text r s.starts end) (x ∷ xs))) (ne_eqb (length (x ∷ xs)) 0 (λ z. omega (arith, z)))
      ∙ (ap (λ (l : List (List ℕ)). tries.tries_text s.starts end (x ∷ xs) (list_offsets l) ++ order.lists_text l) texts_are
      ∙ (ap (λ (l : List ℕ). tries.tries_text s.starts end (x ∷ xs) l ++ order.lists_text ts) (offsets_same all few)
      ∙ (ap (λ (l : List ℕ). l ++ order.lists_text ts) (all_tries all (x ∷ xs) fit offs) ∙ ap (λ (l : List ℕ). unit_bytes (flat_map (try_units sizes all) all) ++ l) (lists_same ts few_lists))))

  -- ---- the whole

  pub item_is : AllByRecursion NamedHandlers b.regions → code_item r b s 0 ≡ (H ++ unit_bytes (units_of_body r sizes b ++ gap_units (map (new_region r) b.regions) (units_of_body r sizes b))) ++ tries_text sizes (map (new_region r) b.regions)
  unfolding code_item
  item_is n =
      ap (λ (l : List ℕ). gap_behind (length b.regions) l ++ tail_text r s (code_end (length (front_text r b s 0))) b.regions) whole_is
      ∙ (ap (λ (l : List ℕ). l ++ tail_text r s (code_end (length (front_text r b s 0))) b.regions) (gap_is b.regions)
      ∙ ap (λ (l : List ℕ). (H ++ unit_bytes (units_of_body r sizes b ++ gap_units (map (new_region r) b.regions) (units_of_body r sizes b))) ++ l) (ap (λ (k : ℕ). tail_text r s k b.regions) end_is_there ∙ tail_same b.regions refl n))

  header_is : (debug : ℕ) (rest : List ℕ) → with_debug debug (H ++ rest) ≡ unit_bytes (frame_units (new_body r b) debug (length (units_of_body r sizes b))) ++ rest
  unfolding with_debug words
  header_is debug rest = same_parts
    where
      regions_few : min (length b.regions) 65535 ≡ length (map (new_region r) b.regions)
      regions_few = omega (arith, f.few_regions, map_many b.regions)

      outs : outs_of b.insns ≡ most_passed (map (new_insn r) b.insns)
      outs = outs_same 0 b.insns f.fine

      shape : ℕ → ℕ → ℕ → List ℕ → List ℕ
      shape o n size middle = unit_bytes (b.registers ∷ b.ins ∷ o ∷ n ∷ []) ++ ((middle ++ []) ++ (unit_bytes (low size ∷ high size ∷ []) ++ rest))

      target : List ℕ → List ℕ
      target middle = unit_bytes (b.registers ∷ b.ins ∷ most_passed (map (new_insn r) b.insns) ∷ length (map (new_region r) b.regions) ∷ []) ++ ((middle ++ []) ++ (unit_bytes (two_units (length (units_of_body r sizes b))) ++ rest))

      same_parts : shape (outs_of b.insns) (min (length b.regions) 65535) s.size (to_le_bytes w32 debug) ≡ target (unit_bytes (two_units debug))
      same_parts =
          ap (λ (o : ℕ). shape o (min (length b.regions) 65535) s.size (to_le_bytes w32 debug)) outs
          ∙ (ap (λ (n : ℕ). shape (most_passed (map (new_insn r) b.insns)) n s.size (to_le_bytes w32 debug)) regions_few
          ∙ (ap (λ (k : ℕ). shape (most_passed (map (new_insn r) b.insns)) (length (map (new_region r) b.regions)) k (to_le_bytes w32 debug)) size_is
          ∙ ap target (sym (word_is debug))))

  -- the writer's code item with its debug item's offset is the text of the definition
  pub text_is : (debug : ℕ) → AllByRecursion NamedHandlers b.regions → with_debug debug (code_item r b s 0) ≡ code_text sizes (texts_of r sizes b) debug (new_body r b)
  text_is debug n =
      let us : List ℕ = units_of_body r sizes b in
      let rs : List Region = map (new_region r) b.regions in
      let rest : List ℕ = unit_bytes (us ++ gap_units rs us) in
      let head : List ℕ = frame_units (new_body r b) debug (length us) in
      ap (λ (l : List ℕ). with_debug debug l) (item_is n ∙ append_assoc H rest (tries_text sizes rs))
      ∙ (header_is debug (rest ++ tries_text sizes rs)
      ∙ (sym (append_assoc (unit_bytes head) rest (tries_text sizes rs))
      ∙ (ap (λ (l : List ℕ). l ++ tries_text sizes rs) (sym (bytes_append head (us ++ gap_units rs us)))
      ∙ ap (λ (l : List ℕ). unit_bytes (frame_units (new_body r b) debug (length l) ++ (l ++ gap_units rs l)) ++ tries_text sizes rs) (sym (units_same r sizes types b f)))))
