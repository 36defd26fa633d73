-- Handler lists that stand in a file: one stands at a place, and it has room for the text of its handlers where these have moved nearer.
use Rattle.std.proofs.Common.{◌≡◌, ℕ, zero, suc, ◌+◌, ◌<◌, ◌≤◌, List, [], ◌∷◌, ◌++◌, length, Option, Some, None, refl, sym, ap, ◌∙◌, subst, arith}
use Rattle.std.specs.Prelude.{ℤ, pos, negsuc, slice_get}
use Rattle.std.specs.List.{flat_map}
use Rattle.std.proofs.lemmas.List.{length-append}
use Rattle.lemmas.proofs.Options.{some_same, none_some}
use Rattle.dex_base.specs.Decides.{ChainOf}
use Rattle.dex_base.specs.Leb.{IsUlebAt, uleb_text, sleb_text}
use Rattle.relax.specs.Sizes.{start}
use Rattle.program_model.specs.declared.body.Handler.{Handler}
use Rattle.program_model.specs.declared.body.Region.{Region}
use Rattle.dex_defs.specs.Sweep.{Places}
use Rattle.dex_defs.specs.Handlers.{Catches, IsPair, magnitude, IsRestAt, AreCatches, IsHandler, AreHandlers, IsRest}
use Rattle.dex_defs.specs.LaysOut.{minus, size_text, handler_text, rest_text, catches_text}
use Rattle.layout_law.proofs.Numbers.{uleb_rises as text_rises}
use Rattle.layout_law.proofs.NumbersRead.{uleb_one, sleb_one, uleb_rises, sleb_rises, uleb_room, sleb_room}

-- ---- one at a place

pub chain_one : {X : Type 0} (Is : ℕ → X × ℕ → Type 0) → ((at : ℕ) (r s : X × ℕ) → Is at r → Is at s → r ≡ s) → (at bt : ℕ) (xs ys : List X) (m n : ℕ) → at ≡ bt → ChainOf Is at xs m → ChainOf Is bt ys n → length xs ≡ length ys
    → (xs ≡ ys) × (m ≡ n)
chain_one Is one at bt [] [] m n same c d long = (refl, c ∙ same ∙ sym d)
chain_one Is one at bt [] (y ∷ ys) m n same c d long = absurd (omega (arith, long))
chain_one Is one at bt (x ∷ xs) [] m n same c d long = absurd (omega (arith, long))
chain_one Is one at bt (x ∷ xs) (y ∷ ys) m n same c d long =
    let e : (x, c.0) ≡ (y, d.0) = one bt (x, c.0) (y, d.0) (subst (λ a. Is a (x, c.0)) same c.1) d.1 in
    let rest = chain_one Is one c.0 d.0 xs ys m n (ap (λ r. r.1) e) c.2 d.2 (omega (arith, long)) in
    (ap (λ z. z ∷ xs) (ap (λ r. r.0) e) ∙ ap (λ zs. y ∷ zs) rest.0, rest.1)

pair_one : (bytes : List ℕ) (at : ℕ) (r s : (ℕ × ℕ) × ℕ) → IsPair bytes at r → IsPair bytes at s → r ≡ s
pair_one bytes at r s h k =
    let kinds = uleb_one bytes at (r.0.0, h.mid) (s.0.0, k.mid) h.kind k.kind in
    let units = uleb_one bytes k.mid (r.0.1, r.1) (s.0.1, s.1) (subst (λ a. IsUlebAt bytes a (r.0.1, r.1)) (ap (λ x. x.1) kinds) h.unit) k.unit in
    ap (λ a. ((a, r.0.1), r.1)) (ap (λ x. x.0) kinds) ∙ ap (λ x. ((s.0.0, x.0), x.1)) units

rest_of : (bytes : List ℕ) (at : ℕ) (o p : Option ℕ) (m n : ℕ) → (u : ℕ) × IsUlebAt bytes at (u, m) × (o ≡ Some u) → (u : ℕ) × IsUlebAt bytes at (u, n) × (p ≡ Some u) → (o ≡ p) × (m ≡ n)
rest_of bytes at o p m n (u, h, e) (v, k, f) =
    let same = uleb_one bytes at (u, m) (v, n) h k in
    (e ∙ ap (λ x. Some x.0) same ∙ sym f, ap (λ x. x.1) same)

rest_one : (bytes : List ℕ) (z : ℤ) (at : ℕ) (o p : Option ℕ) (m n : ℕ) → IsRestAt bytes z at o m → IsRestAt bytes z at p n → (o ≡ p) × (m ≡ n)
rest_one bytes (pos (suc k)) at o p m n h g = (h.0 ∙ sym g.0, h.1 ∙ sym g.1)
rest_one bytes (pos zero) at o p m n h g = rest_of bytes at o p m n h g
rest_one bytes (negsuc k) at o p m n h g = rest_of bytes at o p m n h g

abbrev catches_of : List (ℕ × ℕ) → Option ℕ → Catches
catches_of pairs rest = record { pairs = pairs; rest = rest }

pub catches_one : (bytes : List ℕ) (at : ℕ) (r s : Catches × ℕ) → AreCatches bytes at r → AreCatches bytes at s → r ≡ s
catches_one bytes at r s h k =
    let sizes = sleb_one bytes at (h.size, h.begin) (k.size, k.begin) h.is_size k.is_size in
    let size : h.size ≡ k.size = ap (λ x. x.0) sizes in
    let pairs = chain_one (IsPair bytes) (pair_one bytes) h.begin k.begin r.0.pairs s.0.pairs h.mid k.mid (ap (λ x. x.1) sizes) h.pairs k.pairs (h.many ∙ ap magnitude size ∙ sym k.many) in
    let rest = rest_one bytes k.size k.mid r.0.rest s.0.rest r.1 s.1 (subst (λ z. IsRestAt bytes z k.mid r.0.rest r.1) size (subst (λ a. IsRestAt bytes h.size a r.0.rest r.1) pairs.1 h.rest)) k.rest in
    ap (λ ps. (catches_of ps r.0.rest, r.1)) pairs.0 ∙ ap (λ o. (catches_of s.0.pairs o, r.1)) rest.0 ∙ ap (λ n. (s.0, n)) rest.1

-- ---- it has a byte

pub chain_rises : {X : Type 0} (Is : ℕ → X × ℕ → Type 0) → ((at : ℕ) (r : X × ℕ) → Is at r → at ≤ r.1) → (at : ℕ) (xs : List X) (stop : ℕ) → ChainOf Is at xs stop → at ≤ stop
chain_rises Is up at [] stop c = omega (arith, c)
chain_rises Is up at (x ∷ xs) stop c = omega (arith, up at (x, c.0) c.1, chain_rises Is up c.0 xs stop c.2)

pair_rises : (bytes : List ℕ) (at : ℕ) (r : (ℕ × ℕ) × ℕ) → IsPair bytes at r → at ≤ r.1
pair_rises bytes at r h = omega (arith, uleb_rises bytes at (r.0.0, h.mid) h.kind, uleb_rises bytes h.mid (r.0.1, r.1) h.unit)

rest_rises : (bytes : List ℕ) (z : ℤ) (at : ℕ) (o : Option ℕ) (stop : ℕ) → IsRestAt bytes z at o stop → at ≤ stop
rest_rises bytes (pos (suc k)) at o stop h = omega (arith, h.1)
rest_rises bytes (pos zero) at o stop h = uleb_rises bytes at (h.0, stop) h.1
rest_rises bytes (negsuc k) at o stop h = uleb_rises bytes at (h.0, stop) h.1

pub catches_rise : (bytes : List ℕ) (at : ℕ) (r : Catches × ℕ) → AreCatches bytes at r → at < r.1
catches_rise bytes at r h =
    omega (arith, sleb_rises bytes at (h.size, h.begin) h.is_size, chain_rises (IsPair bytes) (pair_rises bytes) h.begin r.0.pairs h.mid h.pairs, rest_rises bytes h.size h.mid r.0.rest r.1 h.rest)

-- ---- the size of a list

abbrev size_of : ℕ → Option ℕ → List ℕ
size_of n o = elim o as (λ o. List ℕ) [ None ↦ sleb_text (pos n) | Some rest ↦ sleb_text (minus n) ]

size_is : (bytes : List ℕ) (places : Places) (z : ℤ) (at n : ℕ) (rest o : Option ℕ) (stop : ℕ) → n ≡ magnitude z → IsRestAt bytes z at rest stop → IsRest places rest o → size_of n o ≡ sleb_text z
size_is bytes places (pos (suc k)) at n rest None stop e h r = ap (λ m. sleb_text (pos m)) e
size_is bytes places (pos (suc k)) at n (Some u) (Some a) stop e h r = none_some u (sym h.0)
size_is bytes places (pos (suc k)) at n None (Some a) stop e h r = absurd r
size_is bytes places (pos zero) at n rest (Some a) stop e h r = ap (λ m. sleb_text (minus m)) e
size_is bytes places (pos zero) at n (Some u) None stop e h r = absurd r
size_is bytes places (pos zero) at n None None stop e h r = none_some h.0 h.2
size_is bytes places (negsuc k) at n rest (Some a) stop e h r = ap (λ m. sleb_text (minus m)) e
size_is bytes places (negsuc k) at n (Some u) None stop e h r = absurd r
size_is bytes places (negsuc k) at n None None stop e h r = none_some h.0 h.2

as_many : (places : Places) (types : ℕ) (pairs : List (ℕ × ℕ)) (hs : List Handler) → AreHandlers places types pairs hs → length hs ≡ length pairs
as_many places types [] [] h = refl
as_many places types [] (x ∷ hs) h = absurd h
as_many places types (p ∷ pairs) [] h = absurd h
as_many places types (p ∷ pairs) (x ∷ hs) h = ap suc (as_many places types pairs hs h.1)

-- ---- texts where positions begin no later than they were read, and one at each unit

pub record Lower (places : Places) (ts : List ℕ) : Type 0 where
  pub low : (k u : ℕ) → slice_get places.starts k ≡ Some u → start ts k ≤ u
  pub same : (i k u : ℕ) → slice_get places.starts i ≡ Some u → slice_get places.starts k ≡ Some u → start ts i ≡ start ts k

-- a list at a place, with what it gives a region
pub record Gives (bytes : List ℕ) (places : Places) (types at : ℕ) (read : Catches × ℕ) (r : Region) : Type 0 where
  pub are : AreCatches bytes at read
  pub handlers : AreHandlers places types read.0.pairs r.handlers
  pub rest : IsRest places read.0.rest r.rest

module _ (bytes : List ℕ) (places : Places) (types : ℕ) (ts : List ℕ) (l : Lower places ts) where
  handlers_room : (at : ℕ) (pairs : List (ℕ × ℕ)) (hs : List Handler) (stop : ℕ) → ChainOf (IsPair bytes) at pairs stop → AreHandlers places types pairs hs → at + length (flat_map (handler_text ts) hs) ≤ stop
  handlers_room at [] [] stop c h = omega (arith, c)
  handlers_room at [] (x ∷ hs) stop c h = absurd h
  handlers_room at (p ∷ pairs) [] stop c h = absurd h
  handlers_room at (p ∷ pairs) (x ∷ hs) stop c h =
      let pair = c.1 in
      let kind = uleb_room bytes at (p.0, pair.mid) pair.kind in
      let unit = uleb_room bytes pair.mid (p.1, c.0) pair.unit in
      let k : length (uleb_text x.kind) ≡ length (uleb_text p.0) = ap (λ n. length (uleb_text n)) h.0.kind in
      let u = text_rises (start ts x.position) p.1 (l.low x.position p.1 h.0.position) in
      let rest = handlers_room c.0 pairs hs stop c.2 h.1 in
      let a = length-append (handler_text ts x) (flat_map (handler_text ts) hs) in
      let b = length-append (uleb_text x.kind) (uleb_text (start ts x.position)) in
      omega (arith, kind, unit, k, u, rest, a, b)

  by_unit : (at u a stop : ℕ) → (v : ℕ) × IsUlebAt bytes at (v, stop) × (Some u ≡ Some v) → slice_get places.starts a ≡ Some u → at + length (uleb_text (start ts a)) ≤ stop
  by_unit at u a stop (v, h, e) r =
      let room = uleb_room bytes at (v, stop) h in
      let low = l.low a u r in
      let same : u ≡ v = some_same u v e in
      let short = text_rises (start ts a) v (omega (arith, low, same)) in
      omega (arith, room, short)

  rest_room : (z : ℤ) (at : ℕ) (rest o : Option ℕ) (stop : ℕ) → IsRestAt bytes z at rest stop → IsRest places rest o → at + length (rest_text ts o) ≤ stop
  rest_room z at rest None stop h r = let up = rest_rises bytes z at rest stop h in omega (arith, up)
  rest_room z at None (Some a) stop h r = absurd r
  rest_room (pos (suc k)) at (Some u) (Some a) stop h r = none_some u (sym h.0)
  rest_room (pos zero) at (Some u) (Some a) stop h r = by_unit at u a stop h r
  rest_room (negsuc k) at (Some u) (Some a) stop h r = by_unit at u a stop h r

  size_so : (at : ℕ) (read : Catches × ℕ) (r : Region) (g : Gives bytes places types at read r) → size_text r ≡ sleb_text g.are.size
  size_so at read r g = size_is bytes places g.are.size g.are.mid (length r.handlers) read.0.rest r.rest read.1 (as_many places types read.0.pairs r.handlers g.handlers ∙ g.are.many) g.are.rest g.rest

  -- the place has room for its text
  pub text_room : (at : ℕ) (read : Catches × ℕ) (r : Region) → Gives bytes places types at read r → at + length (catches_text ts r) ≤ read.1
  text_room at read r g =
      let size = sleb_room bytes at (g.are.size, g.are.begin) g.are.is_size in
      let same : length (size_text r) ≡ length (sleb_text g.are.size) = ap (λ t. length t) (size_so at read r g) in
      let items = handlers_room g.are.begin read.0.pairs r.handlers g.are.mid g.are.pairs g.handlers in
      let rest = rest_room g.are.size g.are.mid read.0.rest r.rest read.1 g.are.rest g.rest in
      let a = length-append (size_text r ++ flat_map (handler_text ts) r.handlers) (rest_text ts r.rest) in
      let b = length-append (size_text r) (flat_map (handler_text ts) r.handlers) in
      omega (arith, size, same, items, rest, a, b)

  -- ---- and gives one text

  handlers_same : (pairs : List (ℕ × ℕ)) (hs gs : List Handler) → AreHandlers places types pairs hs → AreHandlers places types pairs gs → flat_map (handler_text ts) hs ≡ flat_map (handler_text ts) gs
  handlers_same [] [] [] h g = refl
  handlers_same [] [] (y ∷ gs) h g = absurd g
  handlers_same [] (x ∷ hs) gs h g = absurd h
  handlers_same (p ∷ pairs) [] gs h g = absurd h
  handlers_same (p ∷ pairs) (x ∷ hs) [] h g = absurd g
  handlers_same (p ∷ pairs) (x ∷ hs) (y ∷ gs) h g =
      let kind : x.kind ≡ y.kind = h.0.kind ∙ sym g.0.kind in
      let place : start ts x.position ≡ start ts y.position = l.same x.position y.position p.1 h.0.position g.0.position in
      ap (λ k. (uleb_text k ++ uleb_text (start ts x.position)) ++ flat_map (handler_text ts) hs) kind
      ∙ ap (λ s. (uleb_text y.kind ++ uleb_text s) ++ flat_map (handler_text ts) hs) place
      ∙ ap (λ t. handler_text ts y ++ t) (handlers_same pairs hs gs h.1 g.1)

  rest_same : (rest o p : Option ℕ) → IsRest places rest o → IsRest places rest p → rest_text ts o ≡ rest_text ts p
  rest_same None None None h g = refl
  rest_same None None (Some b) h g = absurd g
  rest_same None (Some a) p h g = absurd h
  rest_same (Some u) None p h g = absurd h
  rest_same (Some u) (Some a) None h g = absurd g
  rest_same (Some u) (Some a) (Some b) h g = ap uleb_text (l.same a b u h g)

  by_read : (at : ℕ) (read : Catches × ℕ) (r q : Region) → Gives bytes places types at read r → (are : AreCatches bytes at read) → AreHandlers places types read.0.pairs q.handlers → IsRest places read.0.rest q.rest → catches_text ts r ≡ catches_text ts q
  by_read at read r q g are handlers rest =
      let h : Gives bytes places types at read q = record { are = g.are; handlers = handlers; rest = rest } in
      ap (λ t. (t ++ flat_map (handler_text ts) r.handlers) ++ rest_text ts r.rest) (size_so at read r g ∙ sym (size_so at read q h))
      ∙ ap (λ t. (size_text q ++ t) ++ rest_text ts r.rest) (handlers_same read.0.pairs r.handlers q.handlers g.handlers handlers)
      ∙ ap (λ t. (size_text q ++ flat_map (handler_text ts) q.handlers) ++ t) (rest_same read.0.rest r.rest q.rest g.rest rest)

  pub text_same : (at : ℕ) (read other : Catches × ℕ) (r q : Region) → Gives bytes places types at read r → Gives bytes places types at other q → catches_text ts r ≡ catches_text ts q
  text_same at read other r q g h =
      let e = catches_one bytes at other read h.are g.are in
      by_read at read r q g g.are (subst (λ x. AreHandlers places types x.0.pairs q.handlers) e h.handlers) (subst (λ x. IsRest places x.0.rest q.rest) e h.rest)
