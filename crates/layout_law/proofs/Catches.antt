-- The lists of handlers where positions move nearer: none gets longer, and equal ones stay equal.
use Rattle.std.proofs.Common.{◌≡◌, ◌⊎◌, inl, inr, ℕ, zero, suc, ◌≤◌, List, [], ◌∷◌, ◌++◌, length, map, Option, Some, None, refl, sym, ap, ◌∙◌, append_assoc, arith}
use Rattle.std.specs.Prelude.{Contains, pos}
use Rattle.std.specs.List.{flat_map}
use Rattle.std.specs.Option.{option_map}
use Rattle.std.proofs.lemmas.List.{length-append}
use Rattle.lemmas.proofs.Lists.{map_long, contains_here, contains_there}
use Rattle.dex_base.specs.Leb.{uleb_text, sleb_text}
use Rattle.relax.specs.Sizes.{start}
use Rattle.program_model.specs.declared.body.Handler.{Handler}
use Rattle.program_model.specs.declared.body.Region.{Region}
use Rattle.dex_defs.specs.LaysOut.{minus, size_text, handler_text, rest_text, catches_text}
use Rattle.layout_law.proofs.Nearer.{Shrinks, begins_lower, begins_same}
use Rattle.layout_law.proofs.Numbers.{IsOne, split_one, uleb_one, uleb_same, uleb_rises, bits_one}
use Rattle.layout_law.proofs.Lists.{Text, In, fewer, all_in, from_either, are_apart, AreLow, begins_of, fewer_begin}
use Rattle.dex_defs.specs.LaysOut.{distinct}

-- ---- regions that move, with other numbers of types

abbrev pub handler_with : (ℕ → ℕ) → (ℕ → ℕ) → Handler → Handler
handler_with at kind h = record { kind = kind h.kind; position = at h.position }

abbrev pub region_with : (ℕ → ℕ) → (ℕ → ℕ) → Region → Region
region_with at kind r = record { first = at r.first; end = at r.end; handlers = map (handler_with at kind) r.handlers; rest = option_map at r.rest }

-- ---- the count

count_text : ℕ → Option ℕ → Text
count_text n None = sleb_text (pos n)
count_text n (Some rest) = sleb_text (minus n)

is_count : (r : Region) → size_text r ≡ count_text (length r.handlers) r.rest
unfolding count_text
is_count r = by r.rest
  where
    by : (o : Option ℕ) → (elim o as (λ o. List ℕ) [ None ↦ sleb_text (pos (length r.handlers)) | Some rest ↦ sleb_text (minus (length r.handlers)) ]) ≡ count_text (length r.handlers) o
    by None = refl
    by (Some rest) = refl

count_one : (n : ℕ) (o : Option ℕ) → IsOne 4 (count_text n o)
unfolding count_text
count_one n None = bits_one _
count_one n (Some rest) = bits_one _

count_moved : (at : ℕ → ℕ) (n : ℕ) (o : Option ℕ) → count_text n (option_map at o) ≡ count_text n o
unfolding count_text
count_moved at n None = refl
count_moved at n (Some rest) = refl

-- ---- one behind another

nothing_first : {A : Type 0} (t xs : Text) → IsOne 4 t → [] ≡ t ++ xs → A
nothing_first [] xs o e = absurd o
nothing_first (b ∷ t) xs o e = absurd (cc)

none_behind : (xs : Text) → xs ≡ xs ++ []
none_behind [] = refl
none_behind (x ∷ xs) = ap (λ l. x ∷ l) (none_behind xs)

module _ (at kind : ℕ → ℕ) (ss ts : List ℕ) (s : Shrinks at ss ts) (lower : (k : ℕ) → kind k ≤ k) where
  abbrev old_text : List Handler → Option ℕ → Text
  old_text hs o = flat_map (handler_text ss) hs ++ rest_text ss o

  abbrev new_text : List Handler → Option ℕ → Text
  new_text hs o = flat_map (handler_text ts) (map (handler_with at kind) hs) ++ rest_text ts (option_map at o)

  position_same : (a b : ℕ) → uleb_text (start ss a) ≡ uleb_text (start ss b) → uleb_text (start ts (at a)) ≡ uleb_text (start ts (at b))
  position_same a b e = ap uleb_text (begins_same at ss ts s a b (uleb_same (start ss a) (start ss b) e))

  kind_same : (a b : ℕ) → uleb_text a ≡ uleb_text b → uleb_text (kind a) ≡ uleb_text (kind b)
  kind_same a b e = ap (λ k. uleb_text (kind k)) (uleb_same a b e)

  -- the first handler stands in front of all else
  first_apart : (sizes : List ℕ) (h : Handler) (hs : List Handler) (xs : Text)
      → flat_map (handler_text sizes) (h ∷ hs) ++ xs ≡ uleb_text h.kind ++ (uleb_text (start sizes h.position) ++ (flat_map (handler_text sizes) hs ++ xs))
  first_apart sizes h hs xs =
      append_assoc (handler_text sizes h) (flat_map (handler_text sizes) hs) xs
      ∙ append_assoc (uleb_text h.kind) (uleb_text (start sizes h.position)) (flat_map (handler_text sizes) hs ++ xs)

  -- one number is no more numbers
  alone : {A : Type 0} (o : Option ℕ) (t u xs : Text) → IsOne 4 t → IsOne 4 u → rest_text ss o ≡ t ++ (u ++ xs) → A
  alone None t u xs p q e = nothing_first t (u ++ xs) p e
  alone (Some a) t u xs p q e =
      let r = split_one 4 (uleb_text (start ss a)) t [] (u ++ xs) (uleb_one (start ss a)) p (sym (none_behind (uleb_text (start ss a))) ∙ e) in
      nothing_first u xs q r.1

  rest_same : (o p : Option ℕ) → rest_text ss o ≡ rest_text ss p → rest_text ts (option_map at o) ≡ rest_text ts (option_map at p)
  rest_same None None e = refl
  rest_same None (Some b) e = nothing_first (uleb_text (start ss b)) [] (uleb_one (start ss b)) (e ∙ none_behind (uleb_text (start ss b)))
  rest_same (Some a) None e = nothing_first (uleb_text (start ss a)) [] (uleb_one (start ss a)) (sym e ∙ none_behind (uleb_text (start ss a)))
  rest_same (Some a) (Some b) e = position_same a b e

  items_same : (hs gs : List Handler) (o p : Option ℕ) → old_text hs o ≡ old_text gs p → new_text hs o ≡ new_text gs p
  items_same [] [] o p e = rest_same o p e
  items_same [] (g ∷ gs) o p e = alone o (uleb_text g.kind) (uleb_text (start ss g.position)) (old_text gs p) (uleb_one g.kind) (uleb_one (start ss g.position)) (e ∙ first_apart ss g gs (rest_text ss p))
  items_same (h ∷ hs) [] o p e = alone p (uleb_text h.kind) (uleb_text (start ss h.position)) (old_text hs o) (uleb_one h.kind) (uleb_one (start ss h.position)) (sym e ∙ first_apart ss h hs (rest_text ss o))
  items_same (h ∷ hs) (g ∷ gs) o p e =
      let k = split_one 4 (uleb_text h.kind) (uleb_text g.kind) (uleb_text (start ss h.position) ++ old_text hs o) (uleb_text (start ss g.position) ++ old_text gs p) (uleb_one h.kind) (uleb_one g.kind)
      (sym (first_apart ss h hs (rest_text ss o)) ∙ e ∙ first_apart ss g gs (rest_text ss p)) in
      let q = split_one 4 (uleb_text (start ss h.position)) (uleb_text (start ss g.position)) (old_text hs o) (old_text gs p) (uleb_one (start ss h.position)) (uleb_one (start ss g.position)) k.1 in
      first_apart ts (handler_with at kind h) (map (handler_with at kind) hs) (rest_text ts (option_map at o))
      ∙ ap (λ t. t ++ (uleb_text (start ts (at h.position)) ++ new_text hs o)) (kind_same h.kind g.kind k.0)
      ∙ ap (λ t. uleb_text (kind g.kind) ++ (t ++ new_text hs o)) (position_same h.position g.position q.0)
      ∙ ap (λ t. uleb_text (kind g.kind) ++ (uleb_text (start ts (at g.position)) ++ t)) (items_same hs gs o p q.1)
      ∙ sym (first_apart ts (handler_with at kind g) (map (handler_with at kind) gs) (rest_text ts (option_map at p)))

  -- ---- whole texts

  old_apart : (r : Region) → catches_text ss r ≡ count_text (length r.handlers) r.rest ++ old_text r.handlers r.rest
  old_apart r = append_assoc (size_text r) (flat_map (handler_text ss) r.handlers) (rest_text ss r.rest) ∙ ap (λ t. t ++ old_text r.handlers r.rest) (is_count r)

  new_apart : (r : Region) → catches_text ts (region_with at kind r) ≡ count_text (length r.handlers) r.rest ++ new_text r.handlers r.rest
  new_apart r =
      append_assoc (size_text (region_with at kind r)) (flat_map (handler_text ts) (map (handler_with at kind) r.handlers)) (rest_text ts (option_map at r.rest))
      ∙ ap (λ t. t ++ new_text r.handlers r.rest)
      (is_count (region_with at kind r) ∙ ap (λ n. count_text n (option_map at r.rest)) (map_long (handler_with at kind) r.handlers) ∙ count_moved at (length r.handlers) r.rest)

  texts_same : (r q : Region) → catches_text ss r ≡ catches_text ss q → catches_text ts (region_with at kind r) ≡ catches_text ts (region_with at kind q)
  texts_same r q e =
      let c = split_one 4 (count_text (length r.handlers) r.rest) (count_text (length q.handlers) q.rest) (old_text r.handlers r.rest) (old_text q.handlers q.rest) (count_one (length r.handlers) r.rest) (count_one (length q.handlers) q.rest)
      (sym (old_apart r) ∙ e ∙ old_apart q) in
      new_apart r
      ∙ ap (λ t. t ++ new_text r.handlers r.rest) c.0
      ∙ ap (λ t. count_text (length q.handlers) q.rest ++ t) (items_same r.handlers q.handlers r.rest q.rest c.1)
      ∙ sym (new_apart q)

  rest_short : (o : Option ℕ) → length (rest_text ts (option_map at o)) ≤ length (rest_text ss o)
  rest_short None = omega arith
  rest_short (Some a) = uleb_rises (start ts (at a)) (start ss a) (begins_lower at ss ts s a)

  items_short : (hs : List Handler) → length (flat_map (handler_text ts) (map (handler_with at kind) hs)) ≤ length (flat_map (handler_text ss) hs)
  items_short [] = omega arith
  items_short (h ∷ hs) =
      let k = uleb_rises (kind h.kind) h.kind (lower h.kind) in
      let p = uleb_rises (start ts (at h.position)) (start ss h.position) (begins_lower at ss ts s h.position) in
      let r = items_short hs in
      let a = length-append (handler_text ts (handler_with at kind h)) (flat_map (handler_text ts) (map (handler_with at kind) hs)) in
      let b = length-append (uleb_text (kind h.kind)) (uleb_text (start ts (at h.position))) in
      let c = length-append (handler_text ss h) (flat_map (handler_text ss) hs) in
      let d = length-append (uleb_text h.kind) (uleb_text (start ss h.position)) in
      omega (arith, k, p, r, a, b, c, d)

  text_short : (r : Region) → length (catches_text ts (region_with at kind r)) ≤ length (catches_text ss r)
  text_short r =
      let a = ap length (new_apart r) in
      let b = ap length (old_apart r) in
      let c = length-append (count_text (length r.handlers) r.rest) (new_text r.handlers r.rest) in
      let d = length-append (count_text (length r.handlers) r.rest) (old_text r.handlers r.rest) in
      let e = length-append (flat_map (handler_text ts) (map (handler_with at kind) r.handlers)) (rest_text ts (option_map at r.rest)) in
      let f = length-append (flat_map (handler_text ss) r.handlers) (rest_text ss r.rest) in
      omega (arith, a, b, c, d, e, f, items_short r.handlers, rest_short r.rest)

  -- ---- all of a body

  -- a text and what becomes of it
  record IsOf (a b : Text) : Type 0 where
    pub region : Region
    pub old : a ≡ catches_text ss region
    pub new : b ≡ catches_text ts (region_with at kind region)

  of_one : (a b c : Text) → IsOf a b → IsOf a c → b ≡ c
  of_one a b c h k = h.new ∙ texts_same h.region k.region (sym h.old ∙ k.old) ∙ sym k.new

  of_short : (a b : Text) → IsOf a b → length b ≤ length a
  of_short a b h = omega (arith, text_short h.region, ap length h.old, ap length h.new)

  to_map : (rs : List Region) (r : Region) → Contains rs r → In (catches_text ss r) (map (catches_text ss) rs)
  to_map [] r (k, l, e) = let f : ⊥ = omega (arith, l) in absurd f
  to_map (q ∷ rs) r (zero, l, e) = inl (ap (catches_text ss) e)
  to_map (q ∷ rs) r (suc k, l, e) = inr (to_map rs r (k, omega (arith, l), e))

  from_map : (rs : List Region) (t : Text) → In t (map (catches_text ts) rs) → (r : Region) × Contains rs r × (catches_text ts r ≡ t)
  from_map [] t i = absurd i
  from_map (q ∷ rs) t (inl e) = (q, contains_here q rs, e)
  from_map (q ∷ rs) t (inr i) = let r = from_map rs t i in (r.0, contains_there q rs r.0 r.1, r.2)

  -- regions that each come of one of others have lists that begin no later
  pub lists_low : (old new : List Region) → ((q : Region) → Contains new q → (r : Region) × Contains old r × (q ≡ region_with at kind r))
      → AreLow (begins_of (map (catches_text ss) old)) → AreLow (begins_of (map (catches_text ts) new))
  lists_low old new come low = fewer_begin (map (catches_text ts) new) (map (catches_text ss) old)
      (fewer IsOf of_one of_short (distinct [] (map (catches_text ts) new)) (distinct [] (map (catches_text ss) old)) (are_apart [] (map (catches_text ts) new) tt) each) low
    where
      there : (b : Text) → In b [] ⊎ In b (map (catches_text ts) new) → (a : Text) × In a (distinct [] (map (catches_text ss) old)) × IsOf a b
      there b (inl i) = absurd i
      there b (inr i) =
          let q = from_map new b i in
          let r = come q.0 q.1 in
          (catches_text ss r.0, all_in [] (map (catches_text ss) old) (catches_text ss r.0) (to_map old r.0 r.1), record { region = r.0; old = refl; new = sym q.2 ∙ ap (catches_text ts) r.2 })

      each : (b : Text) → In b (distinct [] (map (catches_text ts) new)) → (a : Text) × In a (distinct [] (map (catches_text ss) old)) × IsOf a b
      each b i = there b (from_either [] (map (catches_text ts) new) b i)
