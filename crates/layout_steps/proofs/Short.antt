-- A body that lays out in few units, with room for its lists of handlers as the writer counts them, lays out.
use Rattle.std.proofs.Common.{◌≡◌, inl, inr, ℕ, zero, suc, ◌+◌, ◌-◌, ◌<◌, ◌≤◌, min, max, Bool, true, false, cond, List, [], ◌∷◌, ◌++◌, length, map, Option, Some, None, is_some, refl, sym, ap, ap₂, ◌∙◌, subst, append_assoc, arith, All}
use Rattle.std.specs.Prelude.{ℤ, pos, negsuc, ◌-ℤ◌, nat_eq, nat_le, Contains, slice_get, slice_index, slice_index_or, if◌then◌else◌}
use Rattle.std.specs.List.{flat_map, list_any}
use Rattle.std.proofs.lemmas.Bool.{cases_lt, leb-true}
use Rattle.std.proofs.lemmas.Int.{ints}
use Rattle.std.proofs.lemmas.List.{length-append}
use Rattle.lemmas.proofs.Lists.{map_long, contains_here, contains_there, got_short}
use Rattle.dex_base.specs.Leb.{uleb_text, sleb_text}
use Rattle.insn_set.specs.Formats.{format_units}
use Rattle.insn_set.specs.Spelling.{shortest_string}
use Rattle.insn_set.specs.declared.form.Insn.{Insn}
use Rattle.insn_set.specs.declared.form.Insn.TheVariants.{Goto, ConstString}
use Rattle.program_model.specs.Cells.{capped}
use Rattle.program_model.specs.declared.body.Handler.{Handler}
use Rattle.program_model.specs.declared.body.Region.{Region}
use Rattle.program_model.specs.declared.body.Body.{Body}
use Rattle.program_model.specs.declared.pass.Renumber.{Renumber}
use Rattle.relax.specs.declared.step.Step.{Step}
use Rattle.relax.specs.declared.step.Step.TheVariants.{Fixed}
use Rattle.relax.specs.declared.layout.Layout.{Layout}
use Rattle.relax.specs.Steps.{renumbered, step_of}
use Rattle.relax.specs.Sizes.{start, IsLeast}
use Rattle.relax.specs.Payloads.{units_behind, even_place, capped_place, payload_end}
use Rattle.relax.specs.Layouts.{IsLaidOut}
use Rattle.relax.proofs.Starts.{start_mono, start_past}
use Rattle.code_write.specs.Code.{place_at}
use Rattle.code_write.specs.Handlers.{list_size, pair_text, handlers_text}
use Rattle.code_write.specs.Handlers as write
use Rattle.code_write.specs.Lists.{with_list, all_lists, count_text}
use Rattle.dex_defs.specs.LaysOut as lays
use Rattle.dex_defs.specs.LaysOut.{minus, size_text, handler_text, rest_text, catches_text, is_same, distinct, IsNear, LaysOutBody}
use Rattle.inline_calls.specs.Crowded.{bytes_before}
use Rattle.inline_calls.specs.Rooms.{IsShort}
use Rattle.layout_law.proofs.Bodies.{all_from}
use Rattle.layout_law.proofs.Lists.{Text, total, longest, begins_low}
use Rattle.layout_law.proofs.Steps.{room_long}

-- ---- no entry has another number

same_number : (table : List ℕ) (n : ℕ) → table ≡ [] → renumbered table n ≡ n
same_number table n e = ap (λ (t : List ℕ). renumbered t n) e

step_same : (numbers : Renumber) → numbers.strings.items ≡ [] → (i : Insn) → step_of numbers i ≡ lays.step_of i
step_same numbers e (Goto target) = refl
step_same numbers e (ConstString to string) = ap (λ n. Fixed (format_units (shortest_string n))) (same_number numbers.strings.items string e)
step_same numbers e i = refl

steps_same : (numbers : Renumber) → numbers.strings.items ≡ [] → (is : List Insn) → map (step_of numbers) is ≡ map lays.step_of is
steps_same numbers e [] = refl
steps_same numbers e (i ∷ is) = ap (λ s. s ∷ map (step_of numbers) is) (step_same numbers e i) ∙ ap (λ ss. lays.step_of i ∷ ss) (steps_same numbers e is)

-- ---- the code ends no later than its payloads

ends_later : (at : ℕ) (is : List Insn) → min at 18446744073709551615 ≤ payload_end at is
ends_later at [] = omega arith
ends_later at (i ∷ is) = by (nat_eq (units_behind i) 0) (ends_later at is) (ends_later (capped (even_place at + units_behind i)) is)
  where
    by : (b : Bool) → min at 18446744073709551615 ≤ payload_end at is → min (capped (even_place at + units_behind i)) 18446744073709551615 ≤ payload_end (capped (even_place at + units_behind i)) is
        → min at 18446744073709551615 ≤ (if b then payload_end at is else payload_end (capped (even_place at + units_behind i)) is)
    by true r s = r
    by false r s = omega (arith, s)

-- ---- lists

lists_same : (before xs : List Text) → all_lists before xs ≡ distinct before xs
lists_same before [] = refl
lists_same before (x ∷ xs) = by (list_any (is_same x) before) (lists_same before xs) (lists_same (before ++ x ∷ []) xs)
  where
    by : (b : Bool) → all_lists before xs ≡ distinct before xs → all_lists (before ++ x ∷ []) xs ≡ distinct (before ++ x ∷ []) xs
        → all_lists (if b then before else before ++ x ∷ []) xs ≡ (if b then distinct before xs else distinct (before ++ x ∷ []) xs)
    by true r s = r
    by false r s = s

few_lists : (before xs : List Text) → length (distinct before xs) ≤ length before + length xs
few_lists before [] = omega arith
few_lists before (x ∷ xs) = by (list_any (is_same x) before) (few_lists before xs) (few_lists (before ++ x ∷ []) xs)
  where
    by : (b : Bool) → length (distinct before xs) ≤ length before + length xs → length (distinct (before ++ x ∷ []) xs) ≤ length (before ++ x ∷ []) + length xs
        → length (if b then distinct before xs else distinct (before ++ x ∷ []) xs) ≤ length before + suc (length xs)
    by true r s = omega (arith, r)
    by false r s = let l = length-append before (x ∷ []) in omega (arith, s, l)

all_before : (k : ℕ) (xs : List Text) → bytes_before k xs + max k (longest xs) ≡ k + total xs
all_before k [] = omega arith
all_before k (x ∷ xs) = let r = all_before (max k (length x)) xs in omega (arith, r)

-- ---- texts

size_same : (n : ℕ) (o : Option ℕ) → n < 2147483648 → sleb_text (list_size n (is_some o)) ≡ (elim o as (λ o. List ℕ) [ None ↦ sleb_text (pos n) | Some rest ↦ sleb_text (minus n) ])
size_same n None l = let e : min n 2147483647 ≡ n = omega (arith, l) in ap (λ m. sleb_text (pos m)) e
size_same n (Some rest) l = let e : min n 2147483647 ≡ n = omega (arith, l) in ap (λ m. sleb_text (pos 0 -ℤ pos m)) e ∙ ap sleb_text (turned n)
  where
    turned : (n : ℕ) → pos 0 -ℤ pos n ≡ minus n
    turned zero = refl
    turned (suc n) = omega (arith, ints)

-- the places of positions, where the layout has few units
pub record Places (numbers : Renumber) (sizes starts : List ℕ) (end : ℕ) (is : List Insn) : Type 0 where
  pub types : numbers.types.items ≡ []
  pub at : (k : ℕ) → k < length is → place_at starts end k ≡ start sizes k

-- a region whose handlers stand at positions
pub record Inside (is : List Insn) (r : Region) : Type 0 where
  pub few : length r.handlers < 2147483648
  pub handlers : (h : Handler) → Contains r.handlers h → h.position < length is
  pub rest : (k : ℕ) → r.rest ≡ Some k → k < length is

module _ (numbers : Renumber) (sizes starts : List ℕ) (end : ℕ) (is : List Insn) (p : Places numbers sizes starts end is) where
  handlers_same : (hs : List Handler) → ((h : Handler) → Contains hs h → h.position < length is) → flat_map (pair_text numbers.types.items starts end) hs ≡ flat_map (handler_text sizes) hs
  handlers_same [] f = refl
  handlers_same (h ∷ hs) f =
      ap (λ k. (uleb_text k ++ uleb_text (place_at starts end h.position)) ++ flat_map (pair_text numbers.types.items starts end) hs) (same_number numbers.types.items h.kind p.types)
      ∙ ap (λ s. (uleb_text h.kind ++ uleb_text s) ++ flat_map (pair_text numbers.types.items starts end) hs) (p.at h.position (f h (contains_here h hs)))
      ∙ ap (λ t. handler_text sizes h ++ t) (handlers_same hs (λ g c. f g (contains_there h hs g c)))

  rest_same : (o : Option ℕ) → ((k : ℕ) → o ≡ Some k → k < length is) → write.rest_text starts end o ≡ rest_text sizes o
  rest_same None f = refl
  rest_same (Some k) f = ap uleb_text (p.at k (f k refl))

  text_same : (r : Region) → Inside is r → handlers_text numbers starts end r ≡ catches_text sizes r
  text_same r i =
      ap (λ t. t ++ (flat_map (pair_text numbers.types.items starts end) r.handlers ++ write.rest_text starts end r.rest)) (size_same (length r.handlers) r.rest i.few)
      ∙ ap (λ t. size_text r ++ (t ++ write.rest_text starts end r.rest)) (handlers_same r.handlers i.handlers)
      ∙ ap (λ t. size_text r ++ (flat_map (handler_text sizes) r.handlers ++ t)) (rest_same r.rest i.rest)
      ∙ sym (append_assoc (size_text r) (flat_map (handler_text sizes) r.handlers) (rest_text sizes r.rest))

  texts_same : (rs : List Region) → ((r : Region) → Contains rs r → Inside is r) → map (handlers_text numbers starts end) rs ≡ map (catches_text sizes) rs
  texts_same [] f = refl
  texts_same (r ∷ rs) f = ap (λ t. t ∷ map (handlers_text numbers starts end) rs) (text_same r (f r (contains_here r rs))) ∙ ap (λ ts. catches_text sizes r ∷ ts) (texts_same rs (λ q c. f q (contains_there r rs q c)))

-- ---- the body

index_got : (xs : List ℕ) (k d : ℕ) → k < length xs → slice_index_or xs k d ≡ slice_index xs k
index_got [] k d lt = absurd (omega (arith, lt))
index_got (x ∷ xs) zero d lt = refl
index_got (x ∷ xs) (suc k) d lt = index_got xs k d (omega (arith, lt))

pub short_lies : (numbers : Renumber) → numbers.strings.items ≡ [] → numbers.types.items ≡ [] → (b : Body) → length b.regions ≤ 65535 → ((r : Region) → Contains b.regions r → Inside b.insns r) → IsShort numbers b → LaysOutBody b
short_lies numbers strings types b few inside short = record {
  sizes = laid.sizes;
  least = subst (λ fs. IsLeast fs laid.sizes) (steps_same numbers strings b.insns) laid.least;
  branches = laid.near;
  regions = all_from (IsNear laid.sizes) b.regions (λ r c. let low = start_low (r.end - 1) in omega (arith, low));
  few = few;
  lists = begins_low (map (catches_text laid.sizes) b.regions) (λ some. room);
}
  where
    layout : Layout
    layout = short.layout

    laid : IsLaidOut numbers b short.layout
    laid = short.is

    total_low : start laid.sizes (length b.insns) ≤ 32000
    total_low =
        let later = ends_later (start laid.sizes (length b.insns)) b.insns in
        omega (arith, later, laid.size, short.units)

    long : length b.insns ≡ length laid.sizes
    long = sym (map_long (step_of numbers) b.insns) ∙ room_long laid.sizes 0 (map (step_of numbers) b.insns) laid.sizes laid.least.room

    start_low : (k : ℕ) → start laid.sizes k ≤ 32000
    start_low k = elim (cases_lt k (length b.insns)) [
      | inl lt ↦ (let up = start_mono laid.sizes k (length b.insns) (omega (arith, lt)) in omega (arith, up, total_low))
      | inr le ↦ (let past = start_past laid.sizes k (omega (arith, le, long)) in
          let same : start laid.sizes (length laid.sizes) ≡ start laid.sizes (length b.insns) = ap (λ n. start laid.sizes n) (sym long) in
          omega (arith, past, same, total_low))
    ]

    places : Places numbers laid.sizes short.layout.starts.items short.layout.size b.insns
    places = record {
      types = types;
      at = λ k lt. (let at = laid.starts k lt in
          let low = start_low k in
          let small : capped_place (start laid.sizes k) ≡ start laid.sizes k = omega (arith, low) in
          index_got short.layout.starts.items k short.layout.size (omega (arith, lt, laid.long)) ∙ at ∙ small);
    }

    lists_are : all_lists [] (map (handlers_text numbers short.layout.starts.items short.layout.size) b.regions) ≡ distinct [] (map (catches_text laid.sizes) b.regions)
    lists_are = ap (λ ts. all_lists [] ts) (texts_same numbers laid.sizes short.layout.starts.items short.layout.size b.insns places b.regions inside) ∙ lists_same [] (map (catches_text laid.sizes) b.regions)

    fits : length (count_text (distinct [] (map (catches_text laid.sizes) b.regions))) + bytes_before 0 (distinct [] (map (catches_text laid.sizes) b.regions)) ≤ 65535
    fits = leb-true _ 65535 (ap (λ ls. nat_le (length (count_text ls) + bytes_before 0 ls) 65535) (sym lists_are) ∙ short.lists)

    room : length (uleb_text (length (distinct [] (map (catches_text laid.sizes) b.regions)))) + total (distinct [] (map (catches_text laid.sizes) b.regions)) ≤ 65535 + longest (distinct [] (map (catches_text laid.sizes) b.regions))
    room =
        let ds = distinct [] (map (catches_text laid.sizes) b.regions) in
        let many = few_lists [] (map (catches_text laid.sizes) b.regions) in
        let count : min (length ds) 4294967295 ≡ length ds = omega (arith, many, map_long (catches_text laid.sizes) b.regions, few) in
        let head : length (count_text ds) ≡ length (uleb_text (length ds)) = ap (λ n. length (uleb_text n)) count in
        omega (arith, fits, head, all_before 0 ds)
