-- The handler lists of regions that were read begin low where they are written: those of the file stand one behind another up to the last
-- one that a region names, which begins at an offset of 16 bits, and have no fewer bytes.
use Rattle.std.proofs.Common.{◌≡◌, ◌⊎◌, inl, inr, ℕ, zero, suc, ◌+◌, ◌-◌, ◌*◌, ◌<◌, ◌≤◌, max, List, [], ◌∷◌, length, map, refl, sym, ap, ◌∙◌, subst, arith}
use Rattle.std.specs.Prelude.{Contains, replicate, slice_index}
use Rattle.std.proofs.lemmas.Bool.{cases_lt}
use Rattle.std.proofs.lemmas.List.Elements.{All-nil}
use Rattle.lemmas.proofs.Lists.{contains_here, contains_there}
use Rattle.dex_base.specs.Decides.{ChainOf}
use Rattle.dex_base.specs.Leb.{IsUlebAt, uleb_text}
use Rattle.program_model.specs.declared.body.Region.{Region}
use Rattle.dex_defs.specs.Sweep.{Places}
use Rattle.dex_defs.specs.Handlers.{Catches, AreCatches, AreCatchesAt}
use Rattle.dex_defs.specs.LaysOut.{catches_text, distinct}
use Rattle.layout_law.proofs.Numbers.{uleb_rises as text_rises}
use Rattle.layout_law.proofs.Lists.{Text, In, total, longest, from_either, are_apart, fewer, AreLow, begins_of, begins_low}
use Rattle.layout_law.proofs.NumbersRead.{uleb_one, uleb_room}
use Rattle.layout_law.proofs.Chains.{catches_one, catches_rise, chain_rises, Lower, Gives, text_room, text_same}

-- a region, and the list in the file from which its handlers come
pub record Listing (bytes : List ℕ) (places : Places) (lists types : ℕ) : Type 0 where
  pub region : Region
  pub offset : ℕ
  pub low : offset ≤ 65535
  pub catches : Catches
  pub are : AreCatchesAt bytes lists offset catches
  pub gives : Gives bytes places types (lists + offset) (catches, are.stop) region

-- ---- texts that stand for the lists of the file, by where they begin and how many bytes they have

abbrev tag : ℕ → ℕ → Text
tag at n = at ∷ replicate (n - 1) 0

filled : (n : ℕ) → length {A = ℕ} (replicate n 0) ≡ n
filled zero = refl
filled (suc n) = ap suc (filled n)

tag_long : (at n : ℕ) → 0 < n → length (tag at n) ≡ n
tag_long at n some = omega (arith, some, filled (n - 1))

tag_same : (a m b n : ℕ) → tag a m ≡ tag b n → a ≡ b
tag_same a m b n e = ap (λ t. slice_index t 0) e

module _ (bytes : List ℕ) where
  tags : (at : ℕ) (cs : List Catches) (stop : ℕ) → ChainOf (AreCatches bytes) at cs stop → List Text
  tags at [] stop c = []
  tags at (x ∷ xs) stop c = tag at (c.0 - at) ∷ tags c.0 xs stop c.2

  tags_long : (at : ℕ) (cs : List Catches) (stop : ℕ) (c : ChainOf (AreCatches bytes) at cs stop) → length (tags at cs stop c) ≡ length cs
  unfolding tags
  tags_long at [] stop c = refl
  tags_long at (x ∷ xs) stop c = ap suc (tags_long c.0 xs stop c.2)

  tags_total : (at : ℕ) (cs : List Catches) (stop : ℕ) (c : ChainOf (AreCatches bytes) at cs stop) → at + total (tags at cs stop c) ≡ stop
  unfolding tags
  tags_total at [] stop c = omega (arith, c)
  tags_total at (x ∷ xs) stop c =
      let up = catches_rise bytes at (x, c.0) c.1 in
      let rest = tags_total c.0 xs stop c.2 in
      let one = tag_long at (c.0 - at) (omega (arith, up)) in
      omega (arith, up, rest, one)

  rises : (at : ℕ) (r : Catches × ℕ) → AreCatches bytes at r → at ≤ r.1
  rises at r h = let up = catches_rise bytes at r h in omega (arith, up)

  -- of two lists up to which the chain goes the earlier one is on the way, or they are the same
  walk : (at bt : ℕ) (xs ys : List Catches) (p t : ℕ) (c : ChainOf (AreCatches bytes) at xs p) (d : ChainOf (AreCatches bytes) bt ys t) → at ≡ bt → p ≤ t → (read : Catches × ℕ) → AreCatches bytes p read
      → (p ≡ t) ⊎ In (tag p (read.1 - p)) (tags bt ys t d)
  unfolding tags
  walk at bt [] [] p t c d e le read are = inl (c ∙ e ∙ sym d)
  walk at bt [] (y ∷ ys) p t c d e le read are =
      let here : p ≡ bt = c ∙ e in
      let same = catches_one bytes bt (y, d.0) read d.1 (subst (λ a. AreCatches bytes a read) here are) in
      inr (inl (ap (λ s. tag bt (s - bt)) (ap (λ r. r.1) same) ∙ ap (λ a. tag a (read.1 - a)) (sym here)))
  walk at bt (x ∷ xs) [] p t c d e le read are =
      let up = catches_rise bytes at (x, c.0) c.1 in
      let more = chain_rises (AreCatches bytes) rises c.0 xs p c.2 in
      absurd (omega (arith, up, more, le, d, e))
  walk at bt (x ∷ xs) (y ∷ ys) p t c d e le read are =
      let same = catches_one bytes bt (x, c.0) (y, d.0) (subst (λ a. AreCatches bytes a (x, c.0)) e c.1) d.1 in
      elim (walk c.0 d.0 xs ys p t c.2 d.2 (ap (λ r. r.1) same) le read are) [ inl s ↦ inl s | inr i ↦ inr (inr i) ]

-- ---- the last list that is named

module _ (bytes : List ℕ) (places : Places) (lists types : ℕ) (ts : List ℕ) (lower : Lower places ts) where
  abbrev Item : Type 0
  Item = Listing bytes places lists types

  abbrev text_of : Item → Text
  text_of l = catches_text ts l.region

  abbrev size_of : Item → ℕ
  size_of l = l.are.stop - (lists + l.offset)

  abbrev tag_of : Item → Text
  tag_of l = tag (lists + l.offset) (size_of l)

  abbrev AreUpTo : ℕ → List Item → Type 0
  AreUpTo n ls = (l : Item) → Contains ls l → l.offset ≤ n

  some_size : (l : Item) → 0 < size_of l
  some_size l = let up = catches_rise bytes (lists + l.offset) (l.catches, l.are.stop) l.are.are in omega (arith, up)

  -- one that none lies behind
  record Last (ls : List Item) : Type 0 where
    pub last : Item
    pub among : Contains ls last
    pub most : AreUpTo last.offset ls

  of_one : (l : Item) → Last (l ∷ [])
  of_one l = record { last = l; among = contains_here l []; most = λ k c. only k c }
    where
      only : (k : Item) → Contains (l ∷ []) k → k.offset ≤ l.offset
      only k (zero, i, e) = omega (arith, ap (λ (x : Item). x.offset) e)
      only k (suc n, i, e) = absurd (omega (arith, i))

  of_more : (l : Item) (ls : List Item) → Last ls → Last (l ∷ ls)
  of_more l ls k = elim (cases_lt k.last.offset l.offset) [
    | inl lt ↦ record { last = l; among = contains_here l ls; most = λ x c. first x c lt }
    | inr le ↦ record { last = k.last; among = contains_there l ls k.last k.among; most = λ x c. second x c le }
  ]
    where
      first : (x : Item) → Contains (l ∷ ls) x → k.last.offset < l.offset → x.offset ≤ l.offset
      first x (zero, i, e) lt = omega (arith, ap (λ (y : Item). y.offset) e)
      first x (suc n, i, e) lt = let m = k.most x (n, omega (arith, i), e) in omega (arith, m, lt)

      second : (x : Item) → Contains (l ∷ ls) x → l.offset ≤ k.last.offset → x.offset ≤ k.last.offset
      second x (zero, i, e) le = omega (arith, ap (λ (y : Item). y.offset) e, le)
      second x (suc n, i, e) le = k.most x (n, omega (arith, i), e)

  last_of : (l : Item) (ls : List Item) → Last (l ∷ ls)
  last_of l [] = of_one l
  last_of l (k ∷ ls) = of_more l (k ∷ ls) (last_of k ls)

  -- ---- each text comes of a list up to the last one

  record Comes (a b : Text) : Type 0 where
    pub item : Item
    pub tagged : a ≡ tag_of item
    pub text : b ≡ text_of item

  comes_one : (a b c : Text) → Comes a b → Comes a c → b ≡ c
  comes_one a b c h k =
      let e : lists + h.item.offset ≡ lists + k.item.offset = tag_same (lists + h.item.offset) (size_of h.item) (lists + k.item.offset) (size_of k.item) (sym h.tagged ∙ k.tagged) in
      h.text
      ∙ text_same bytes places types ts lower (lists + k.item.offset) (h.item.catches, h.item.are.stop) (k.item.catches, k.item.are.stop) h.item.region k.item.region
      (subst (λ at. Gives bytes places types at (h.item.catches, h.item.are.stop) h.item.region) e h.item.gives) k.item.gives
      ∙ sym k.text

  comes_short : (a b : Text) → Comes a b → length b ≤ length a
  comes_short a b h =
      let room = text_room bytes places types ts lower (lists + h.item.offset) (h.item.catches, h.item.are.stop) h.item.region h.item.gives in
      let long = tag_long (lists + h.item.offset) (size_of h.item) (some_size h.item) in
      omega (arith, room, long, ap length h.tagged, ap length h.text)

  from_map : (ls : List Item) (t : Text) → In t (map text_of ls) → (l : Item) × Contains ls l × (text_of l ≡ t)
  from_map [] t i = absurd i
  from_map (k ∷ ls) t (inl e) = (k, contains_here k ls, e)
  from_map (k ∷ ls) t (inr i) = let r = from_map ls t i in (r.0, contains_there k ls r.0 r.1, r.2)

  module _ (ls : List Item) (k : Last ls) where
    abbrev top : Item
    top = k.last

    abbrev olds : List Text
    olds = tag_of top ∷ tags bytes top.are.begin top.are.before (lists + top.offset) top.are.behind

    abbrev texts : List Text
    texts = map text_of ls

    on_the_way : (l : Item) → Contains ls l → In (tag_of l) olds
    on_the_way l c =
        let counts = uleb_one bytes lists (l.are.count, l.are.begin) (top.are.count, top.are.begin) l.are.is_count top.are.is_count in
        let most = k.most l c in
        elim (walk bytes l.are.begin top.are.begin l.are.before top.are.before (lists + l.offset) (lists + top.offset) l.are.behind top.are.behind (ap (λ r. r.1) counts) (omega (arith, most)) (l.catches, l.are.stop) l.are.are) [
          | inl e ↦ (let same = catches_one bytes (lists + top.offset) (top.catches, top.are.stop) (l.catches, l.are.stop) top.are.are
              (subst (λ at. AreCatches bytes at (l.catches, l.are.stop)) e l.are.are) in
              inl (ap (λ s. tag (lists + top.offset) (s - (lists + top.offset))) (ap (λ r. r.1) same) ∙ ap (λ a. tag a (l.are.stop - a)) (sym e)))
          | inr i ↦ inr i
        ]

    each : (b : Text) → In b (distinct [] texts) → (a : Text) × In a olds × Comes a b
    each b i = there b (from_either [] texts b i)
      where
        there : (b : Text) → In b [] ⊎ In b texts → (a : Text) × In a olds × Comes a b
        there b (inl j) = absurd j
        there b (inr j) = let l = from_map ls b j in (tag_of l.0, on_the_way l.0 l.1, record { item = l.0; tagged = refl; text = sym l.2 })

    few : length (uleb_text (length (distinct [] texts))) + total (distinct [] texts) ≤ 65535 + longest (distinct [] texts)
    few =
        let f = fewer Comes comes_one comes_short (distinct [] texts) olds (are_apart [] texts tt) each in
        let long = tags_long bytes top.are.begin top.are.before (lists + top.offset) top.are.behind in
        let sum = tags_total bytes top.are.begin top.are.before (lists + top.offset) top.are.behind in
        let one = tag_long (lists + top.offset) (size_of top) (some_size top) in
        let count = uleb_room bytes lists (top.are.count, top.are.begin) top.are.is_count in
        let fewer_texts : length (distinct [] texts) ≤ top.are.count = omega (arith, f.count, long, top.are.fewer) in
        let head = text_rises (length (distinct [] texts)) top.are.count fewer_texts in
        by (length (uleb_text (length (distinct [] texts)))) (length (uleb_text top.are.count)) (total (distinct [] texts)) (longest (distinct [] texts)) (size_of top) (length (tag_of top))
        (total (tags bytes top.are.begin top.are.before (lists + top.offset) top.are.behind)) (longest (tags bytes top.are.begin top.are.before (lists + top.offset) top.are.behind))
        top.are.begin top.offset f.before one sum count head top.low
      where
        by : (u c sum most size tagged rest rest_most begin offset : ℕ) → sum + max tagged rest_most ≤ (tagged + rest) + most → tagged ≡ size → begin + rest ≡ lists + offset → lists + c ≤ begin → u ≤ c → offset ≤ 65535
            → u + sum ≤ 65535 + most
        by u c sum most size tagged rest rest_most begin offset f one s b h l = omega (arith, f, one, s, b, h, l)

    texts_low : AreLow (begins_of texts)
    texts_low = begins_low texts (λ some. few)

  texts_are : (ls : List Item) → map text_of ls ≡ map (catches_text ts) (map (λ (l : Item). l.region) ls)
  texts_are [] = refl
  texts_are (l ∷ ls) = ap (λ xs. text_of l ∷ xs) (texts_are ls)

  all_low : (ls : List Item) → AreLow (begins_of (map text_of ls))
  all_low [] = All-nil (λ at. at ≤ 65535)
  all_low (l ∷ ls) = texts_low (l ∷ ls) (last_of l ls)

  pub listed_low : (ls : List Item) → AreLow (begins_of (map (catches_text ts) (map (λ (l : Item). l.region) ls)))
  listed_low ls = subst (λ xs. AreLow (begins_of xs)) (texts_are ls) (all_low ls)
