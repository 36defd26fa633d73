-- The body of the definition Inlined is a body with inlined calls.
use Rattle.std.proofs.Common.{◌≡◌, ℕ, zero, suc, ◌+◌, ◌<◌, ◌≤◌, Bool, true, false, true≢false, List, [], ◌∷◌, ◌++◌, length, refl, sym, ap, ◌∙◌, subst, arith, ◌-◌, append_assoc, inl, inr}
use Rattle.std.specs.Prelude.{◌⊎◌, ◌&&◌, Option, Some, None, is_some, slice_get, if◌then◌else◌, map, find, nat_le, nat_lt}
use Rattle.std.specs.Option.{option_map, option_and_then}
use Rattle.std.proofs.lemmas.Bool.{le-leb, lt-ltb}
use Rattle.std.proofs.lemmas.Bool.Decides.{leb_tells}
use Rattle.lemmas.proofs.Numbers.{next_is}
use Rattle.lemmas.proofs.Options.{none_some, some_same}
use mathlib.Core.Bool.{cond}
use Rattle.dalvik_defs.specs.Names.{Text}
use Rattle.dalvik_defs.specs.Face.{Bodies}
use Rattle.dalvik_defs.specs.Stack.{covers, handler_in, handler_at}
use Rattle.dalvik_defs.specs.declared.names.MethodKey.{MethodKey}
use Rattle.dalvik_defs.specs.declared.forms.Form.{Form}
use Rattle.dalvik_defs.specs.declared.forms.Form.TheVariants as form
use Rattle.dalvik_defs.specs.declared.program.NamedBody.{NamedBody}
use Rattle.dalvik_defs.specs.declared.program.NamedMethod.{NamedMethod}
use Rattle.dalvik_defs.specs.declared.program.NamedRegion.{NamedRegion}
use Rattle.dalvik_defs.specs.declared.program.NamedHandler.{NamedHandler}
use Rattle.dalvik_defs.specs.declared.program.NamedProgram.{NamedProgram}
use Rattle.pass_defs.specs.Remade.{remade, retargeted}
use Rattle.pass_defs.specs.Quiet.{takes_result}
use Rattle.pass_defs.specs.Walks.{form_at}
use Rattle.pass_defs.specs.Inlined.{Callee, Taken, Piece, taken_by, is_taken, is_among, callee_of, callee_at, greatest, moves_of, copy_size, copy_place, copied, is_dropped, size_of, place_of, piece, copy_piece, copies, inlined_call, pieces_at, pieces_from, placed_handler, placed_region, inlined}
use Rattle.inline_law.specs.Inlining.{Lives, Behind, Untaken, TakenBy, Stand, stays_form, Copied, Kept, Ended, Dropped, Handed, IsCopied, Went, Past, Stood, Replaced, IsInlined}
use Rattle.inline_law.specs.Accepted.{Suits, AreAccepted}

-- ---- lists

plus_zero : (n : ℕ) → n + 0 ≡ n
plus_zero n = omega arith

zero_plus : (n : ℕ) → 0 + n ≡ n
zero_plus n = omega arith

-- from a place on, a list is another
abbrev Tail : List Form → ℕ → List Form → Type 0
Tail l at r = (j : ℕ) → slice_get l (at + j) ≡ slice_get r j

get_behind : (xs r : List Form) (i j : ℕ) → i ≡ length xs + j → slice_get (xs ++ r) i ≡ slice_get r j
get_behind [] r i j e = let q : i ≡ j = omega (arith, e) in ap (slice_get r) q
get_behind (x ∷ xs) r zero j e = let f : ⊥ = omega (arith, e) in absurd f
get_behind (x ∷ xs) r (suc i) j e = get_behind xs r i j (omega (arith, e))

tail_on : (l : List Form) (at m : ℕ) (xs r : List Form) → Tail l at (xs ++ r) → m ≡ at + length xs → Tail l m r
tail_on l at m xs r t e j = let q : m + j ≡ at + (length xs + j) = omega (arith, e) in ap (slice_get l) q ∙ t (length xs + j) ∙ get_behind xs r (length xs + j) j refl

tail_first : (l : List Form) (at : ℕ) (x : Form) (r : List Form) → Tail l at (x ∷ r) → slice_get l at ≡ Some x
tail_first l at x r t = ap (slice_get l) (sym (plus_zero at)) ∙ t 0

map_append : (f : Piece → Form) (xs ys : List Piece) → map f (xs ++ ys) ≡ map f xs ++ map f ys
map_append f [] ys = refl
map_append f (x ∷ xs) ys = ap (λ l. f x ∷ l) (map_append f xs ys)

any_length : {X : Type 0} {Y : Type 0} (f : X → Y) (xs : List X) → length (map f xs) ≡ length xs
any_length f [] = refl
any_length f (x ∷ xs) = ap suc (any_length f xs)

pieces_append : (xs ys : List Piece) → length (xs ++ ys) ≡ length xs + length ys
pieces_append [] ys = sym (zero_plus (length ys))
pieces_append (x ∷ xs) ys = let e = pieces_append xs ys in omega (arith, e)

-- pieces of forms are the forms
of_pieces : (f : Form → Piece) → ((x : Form) → (f x).form ≡ x) → (xs : List Form) → map (λ q. q.form) (map f xs) ≡ xs
of_pieces f h [] = refl
of_pieces f h (x ∷ xs) = ap (λ z. z ∷ map (λ q. q.form) (map f xs)) (h x) ∙ ap (λ l. x ∷ l) (of_pieces f h xs)

-- ---- copies

copied_size : (k : ℕ) (t : Taken) (end : ℕ) (place : ℕ → ℕ) (f : Form) → length (copied k t end place f) ≡ copy_size t f
copied_size k None end place form.ReturnVoid = refl
copied_size k None end place (form.Return s from) = refl
copied_size k None end place f = refl
copied_size k (Some t) end place form.ReturnVoid = refl
copied_size k (Some t) end place (form.Return s from) = refl
copied_size k (Some t) end place f = refl

size_one : (t : Taken) (f : Form) → 1 ≤ copy_size t f
size_one None f = omega arith
size_one (Some t) (form.Return s from) = omega arith
size_one (Some t) form.Nop = omega arith
size_one (Some t) f = omega arith

stays_size : (t : Taken) (f : Form) → stays_form f ≡ true → copy_size t f ≡ 1
stays_size None f e = refl
stays_size (Some t) (form.Return s from) e = absurd (true≢false (sym e))
stays_size (Some t) form.Nop e = refl
stays_size (Some t) f e = refl

stays_copied : (k : ℕ) (t : Taken) (end : ℕ) (place : ℕ → ℕ) (f : Form) → stays_form f ≡ true → copied k t end place f ≡ retargeted place f ∷ []
stays_copied k None end place form.ReturnVoid e = absurd (true≢false (sym e))
stays_copied k None end place (form.Return s from) e = absurd (true≢false (sym e))
stays_copied k None end place f e = refl
stays_copied k (Some t) end place form.ReturnVoid e = absurd (true≢false (sym e))
stays_copied k (Some t) end place (form.Return s from) e = absurd (true≢false (sym e))
stays_copied k (Some t) end place f e = refl

copy_next : (t : Taken) (fs : List Form) (j : ℕ) (f : Form) → slice_get fs j ≡ Some f → copy_place t fs (suc j) ≡ copy_place t fs j + copy_size t f
copy_next t [] j f e = none_some f e
copy_next t (x ∷ xs) zero f e = plus_first xs ∙ ap (copy_size t) (some_same x f e) ∙ sym (zero_plus (copy_size t f))
  where
    plus_first : (xs : List Form) → copy_size t x + copy_place t xs 0 ≡ copy_size t x
    plus_first [] = plus_zero (copy_size t x)
    plus_first (y ∷ ys) = plus_zero (copy_size t x)
copy_next t (x ∷ xs) (suc j) f e = let h = copy_next t xs j f e in ap (λ n. copy_size t x + n) h ∙ assoc (copy_size t x) (copy_place t xs j) (copy_size t f)
  where
    assoc : (a b c : ℕ) → a + (b + c) ≡ a + b + c
    assoc a b c = omega arith

copy_within : (t : Taken) (fs : List Form) (j : ℕ) (f : Form) → slice_get fs j ≡ Some f → copy_place t fs j < copy_place t fs (length fs)
copy_within t [] j f e = none_some f e
copy_within t (x ∷ xs) zero f e = let a = size_one t x in omega (arith, a)
copy_within t (x ∷ xs) (suc j) f e = let h = copy_within t xs j f e in omega (arith, h)

-- ---- places

module _ (p : NamedProgram) (k : MethodKey) (m : NamedMethod) (b : NamedBody) (accepted : List ℕ) where
  abbrev place : ℕ → ℕ
  place = place_of p b accepted

  abbrev sites : ℕ → Option Callee
  sites = callee_at p b accepted

  abbrev shift : ℕ
  shift = greatest p b accepted

  abbrev new : NamedBody
  new = inlined p k m b accepted

  abbrev forms : List Piece → List Form
  forms = map (λ q. q.form)

  mono : (n i : ℕ) → i ≤ n → place i ≤ place n
  mono zero i l = let e : i ≡ 0 = omega (arith, l) in subst (λ z. place z ≤ place 0) (sym e) (omega arith)
  mono (suc n) i l = by (leb_tells i n) (mono n i)
    where
      by : ((nat_le i n ≡ true) × (i ≤ n)) ⊎ ((nat_le i n ≡ false) × (n < i)) → (i ≤ n → place i ≤ place n) → place i ≤ place (suc n)
      by (inl h) more = let a = more h.1 in omega (arith, a)
      by (inr h) more = let a = h.1 in let e : i ≡ suc n = omega (arith, l, a) in subst (λ z. place z ≤ place (suc n)) (sym e) (omega arith)

  copies_length : (c : Callee) (n first end : ℕ) (t : Taken) (i : ℕ) (fs : List Form) → length (copies p k m b accepted c n first end t i fs) ≡ copy_place t fs (length fs)
  copies_length c n first end t i [] = refl
  copies_length c n first end t i (f ∷ fs) =
      let here = copied shift t end (λ j. first + copy_place t c.body.forms j) f in
      pieces_append (map (copy_piece p k m b accepted c n i) here) (copies p k m b accepted c n first end t (suc i) fs)
      ∙ ap (λ z. z + length (copies p k m b accepted c n first end t (suc i) fs)) (any_length (copy_piece p k m b accepted c n i) here ∙ copied_size shift t end (λ j. first + copy_place t c.body.forms j) f)
      ∙ ap (λ z. copy_size t f + z) (copies_length c n first end t (suc i) fs)

  piece_size : (n : ℕ) (f : Form) (o : Option Callee) → length (pieces_at p k m b accepted n f o) ≡ size_of shift b accepted n o
  piece_size n f None = by (is_dropped b accepted n)
    where
      by : (d : Bool) → length (if d then [] else piece p k m b accepted n (remade (λ r. r + shift) (λ r. r + shift) place f) ∷ []) ≡ (if d then 0 else 1)
      by true = refl
      by false = refl
  piece_size n f (Some c) = pieces_append (map (piece p k m b accepted n) (moves_of shift c)) (copies p k m b accepted c n (place n + length (moves_of shift c)) (place (n + 1)) (taken_by (form_at b (n + 1))) 0 c.body.forms)
      ∙ ap (λ z. z + length (copies p k m b accepted c n (place n + length (moves_of shift c)) (place (n + 1)) (taken_by (form_at b (n + 1))) 0 c.body.forms)) (any_length (piece p k m b accepted n) (moves_of shift c))
      ∙ ap (λ z. length (moves_of shift c) + z) (copies_length c n (place n + length (moves_of shift c)) (place (n + 1)) (taken_by (form_at b (n + 1))) 0 c.body.forms)

  -- ---- where the pieces of a position stand

  module _ (n : ℕ) (f : Form) where
    abbrev Placed : List Form → Type 0
    Placed l = (r : List Form) × Tail l (place n) (forms (pieces_at p k m b accepted n f (sites n)) ++ r)

  first_piece : (l : List Form) (n : ℕ) (x : Form) (xs : List Form) → Tail l (place n) (forms (pieces_from p k m b accepted n (x ∷ xs)))
      → Tail l (place n) (forms (pieces_at p k m b accepted n x (sites n)) ++ forms (pieces_from p k m b accepted (suc n) xs))
  first_piece l n x xs t j = t j ∙ ap (λ z. slice_get z j) (map_append (λ q. q.form) (pieces_at p k m b accepted n x (sites n)) (pieces_from p k m b accepted (suc n) xs))

  next_piece : (l : List Form) (n : ℕ) (x : Form) (xs : List Form) → Tail l (place n) (forms (pieces_from p k m b accepted n (x ∷ xs))) → Tail l (place (suc n)) (forms (pieces_from p k m b accepted (suc n) xs))
  next_piece l n x xs t = tail_on l (place n) (place (suc n)) (forms (pieces_at p k m b accepted n x (sites n))) (forms (pieces_from p k m b accepted (suc n) xs)) (first_piece l n x xs t)
      (ap (λ z. place n + z) (sym (any_length (λ q. q.form) (pieces_at p k m b accepted n x (sites n)) ∙ piece_size n x (sites n))))

  walk : (l : List Form) (fs : List Form) (n i to : ℕ) (f : Form) → slice_get fs i ≡ Some f → to ≡ n + i → Tail l (place n) (forms (pieces_from p k m b accepted n fs)) → Placed to f l
  walk l [] n i to f e q t = none_some f e
  walk l (x ∷ xs) n zero to f e q t = let z : n ≡ to = omega (arith, q) in
      subst (λ z. Placed z f l) z (subst (λ z. Placed n z l) (some_same x f e) (forms (pieces_from p k m b accepted (suc n) xs), first_piece l n x xs t))
  walk l (x ∷ xs) n (suc i) to f e q t = walk l xs (suc n) i to f e (omega (arith, q)) (next_piece l n x xs t)

  walk_past : (l : List Form) (fs : List Form) (n i to : ℕ) → slice_get fs i ≡ None → to ≡ n + i → Tail l (place n) (forms (pieces_from p k m b accepted n fs)) → slice_get l (place to) ≡ None
  walk_past l [] n i to e q t = let a = mono to n (omega (arith, q)) in by (place n) (place to) a t
    where
      by : (u v : ℕ) → u ≤ v → Tail l u [] → slice_get l v ≡ None
      by u v a t = let z : v ≡ u + (v - u) = omega (arith, a) in ap (slice_get l) z ∙ t (v - u)
  walk_past l (x ∷ xs) n zero to e q t = none_some x (sym e)
  walk_past l (x ∷ xs) n (suc i) to e q t = walk_past l xs (suc n) i to e (omega (arith, q)) (next_piece l n x xs t)

  all_forms : Tail new.forms (place 0) (forms (pieces_from p k m b accepted 0 b.forms))
  all_forms j = ap (slice_get new.forms) (zero_plus j)

  placed_at : (n : ℕ) (f : Form) → form_at b n ≡ Some f → Placed n f new.forms
  placed_at n f e = walk new.forms b.forms 0 n n f e (sym (zero_plus n)) all_forms

  past_at : (n : ℕ) → form_at b n ≡ None → form_at new (place n) ≡ None
  past_at n e = walk_past new.forms b.forms 0 n n e (sym (zero_plus n)) all_forms

  -- ---- a copy

  stands_from : (xs r : List Form) (at : ℕ) → Tail new.forms at (xs ++ r) → Stand new at xs
  stands_from [] r at t = tt
  stands_from (x ∷ xs) r at t = (tail_first new.forms at x (xs ++ r) t, stands_from xs r (at + 1) (tail_on new.forms at (at + 1) (x ∷ []) (xs ++ r) t refl))

  abbrev up : ℕ → ℕ
  up r = r + shift

  module _ (c : Callee) (n first end : ℕ) (t : Taken) where
    abbrev inner : ℕ → ℕ
    inner j = first + copy_place t c.body.forms j

    copy_at : (fs : List Form) (i j : ℕ) (f : Form) → slice_get fs j ≡ Some f → (r : List Form) (at : ℕ) → Tail new.forms at (forms (copies p k m b accepted c n first end t i fs) ++ r)
        → (r' : List Form) × Tail new.forms (at + copy_place t fs j) (copied shift t end inner f ++ r')
    copy_at [] i j f e r at h = none_some f e
    copy_at (x ∷ xs) i zero f e r at h =
        let here : forms (copies p k m b accepted c n first end t i (x ∷ xs)) ≡ copied shift t end inner x ++ forms (copies p k m b accepted c n first end t (suc i) xs) =
        map_append (λ q. q.form) (map (copy_piece p k m b accepted c n i) (copied shift t end inner x)) (copies p k m b accepted c n first end t (suc i) xs)
        ∙ ap (λ l. l ++ forms (copies p k m b accepted c n first end t (suc i) xs)) (of_pieces (copy_piece p k m b accepted c n i) (λ x. refl) (copied shift t end inner x)) in (
          forms (copies p k m b accepted c n first end t (suc i) xs) ++ r,
          λ j. ap (λ z. slice_get new.forms (z + j)) (plus_zero at) ∙ h j ∙ ap (λ l. slice_get (l ++ r) j) here
              ∙ ap (λ l. slice_get l j) (append_assoc (copied shift t end inner x) (forms (copies p k m b accepted c n first end t (suc i) xs)) r)
              ∙ ap (λ z. slice_get (copied shift t end inner z ++ (forms (copies p k m b accepted c n first end t (suc i) xs) ++ r)) j) (some_same x f e),
        )
    copy_at (x ∷ xs) i (suc j) f e r at h =
        let here : forms (copies p k m b accepted c n first end t i (x ∷ xs)) ≡ copied shift t end inner x ++ forms (copies p k m b accepted c n first end t (suc i) xs) =
        map_append (λ q. q.form) (map (copy_piece p k m b accepted c n i) (copied shift t end inner x)) (copies p k m b accepted c n first end t (suc i) xs)
        ∙ ap (λ l. l ++ forms (copies p k m b accepted c n first end t (suc i) xs)) (of_pieces (copy_piece p k m b accepted c n i) (λ x. refl) (copied shift t end inner x)) in
        let h' : Tail new.forms at (copied shift t end inner x ++ (forms (copies p k m b accepted c n first end t (suc i) xs) ++ r)) = (λ j. h j ∙ ap (λ l. slice_get (l ++ r) j) here
        ∙ ap (λ l. slice_get l j) (append_assoc (copied shift t end inner x) (forms (copies p k m b accepted c n first end t (suc i) xs)) r)) in
        let size = copied_size shift t end inner x in
        let next = tail_on new.forms at (at + copy_size t x) (copied shift t end inner x) (forms (copies p k m b accepted c n first end t (suc i) xs) ++ r) h' (ap (λ z. at + z) (sym size)) in
        let q : at + copy_size t x + copy_place t xs j ≡ at + (copy_size t x + copy_place t xs j) = omega arith in
        subst (λ z. (r' : List Form) × Tail new.forms z (copied shift t end inner f ++ r')) q (copy_at xs (suc i) j f e r (at + copy_size t x) next)

    -- a form of the copy stands by what it was
    copied_as : (u : Taken) (j : ℕ) (f : Form) → Suits u f → (r : List Form) → Tail new.forms (inner j) (copied shift u end inner f ++ r) → (stays_form f ≡ true → inner (j + 1) ≡ inner j + 1) → Copied new up inner u end j f
    copied_as None j form.ReturnVoid s r h a = Ended refl (tail_first new.forms (inner j) _ _ h)
    copied_as None j (form.Return w from) s r h a = Dropped w from refl (tail_first new.forms (inner j) _ _ h)
    copied_as None j (form.MoveException to) s r h a = absurd s
    copied_as None j f s r h a = Kept f refl (tail_first new.forms (inner j) _ _ h) (a refl)
    copied_as (Some u) j form.ReturnVoid s r h a = absurd s
    copied_as (Some u) j (form.Return w from) s r h a = Handed w from u.0 u.1 refl s (tail_first new.forms (inner j) (form.Move u.0 (u.1 + shift) from) (form.Goto end ∷ r) h)
        (tail_first new.forms (inner j + 1) (form.Goto end) r (tail_on new.forms (inner j) (inner j + 1) (form.Move u.0 (u.1 + shift) from ∷ []) (form.Goto end ∷ r) h refl))
    copied_as (Some u) j (form.MoveException to) s r h a = absurd s
    copied_as (Some u) j f s r h a = Kept f refl (tail_first new.forms (inner j) _ _ h) (a refl)

    inner_next : (j : ℕ) (f : Form) → slice_get c.body.forms j ≡ Some f → stays_form f ≡ true → inner (j + 1) ≡ inner j + 1
    inner_next j f e s =
        let a : copy_place t c.body.forms (j + 1) ≡ copy_place t c.body.forms j + 1 = ap (copy_place t c.body.forms) (next_is j) ∙ copy_next t c.body.forms j f e ∙ ap (λ z. copy_place t c.body.forms j + z) (stays_size t f s) in
        omega (arith, a)

  -- ---- handlers

  placed_handlers : (above : Text → Bool) (rest : Option ℕ) (hs : List NamedHandler)
      → elim (find (λ h. above h.kind) (map (placed_handler p k m b accepted) hs)) as (λ o. Option ℕ) [ Some h ↦ Some h.position | None ↦ option_map place rest ]
      ≡ option_map place (elim (find (λ h. above h.kind) hs) as (λ o. Option ℕ) [ Some h ↦ Some h.position | None ↦ rest ])
  placed_handlers above rest [] = refl
  placed_handlers above rest (h ∷ hs) = by (above h.kind) (placed_handlers above rest hs)
    where
      by : (t : Bool) → elim (find (λ h. above h.kind) (map (placed_handler p k m b accepted) hs)) as (λ o. Option ℕ) [ Some h ↦ Some h.position | None ↦ option_map place rest ]
          ≡ option_map place (elim (find (λ h. above h.kind) hs) as (λ o. Option ℕ) [ Some h ↦ Some h.position | None ↦ rest ])
          → elim (cond t (Some (placed_handler p k m b accepted h)) (find (λ h. above h.kind) (map (placed_handler p k m b accepted) hs))) as (λ o. Option ℕ) [ Some h ↦ Some h.position | None ↦ option_map place rest ]
          ≡ option_map place (elim (cond t (Some h) (find (λ h. above h.kind) hs)) as (λ o. Option ℕ) [ Some h ↦ Some h.position | None ↦ rest ])
      by true i = refl
      by false i = i

  module _ (n at : ℕ) (low : place n ≤ at) (high : at < place (suc n)) where
    first_same : (i : ℕ) → nat_le (place i) at ≡ nat_le i n
    first_same i = by (leb_tells i n)
      where
        by : ((nat_le i n ≡ true) × (i ≤ n)) ⊎ ((nat_le i n ≡ false) × (n < i)) → nat_le (place i) at ≡ nat_le i n
        by (inl h) = let a = mono n i h.1 in le-leb (place i) at (omega (arith, a, low)) ∙ sym h.0
        by (inr h) = over (leb_tells (place i) at)
          where
            over : ((nat_le (place i) at ≡ true) × (place i ≤ at)) ⊎ ((nat_le (place i) at ≡ false) × (at < place i)) → nat_le (place i) at ≡ nat_le i n
            over (inl j) = let a = mono i (suc n) (let l = h.1 in omega (arith, l)) in let l = j.1 in let f : ⊥ = omega (arith, a, l, high) in absurd f
            over (inr j) = j.0 ∙ sym h.0

    end_same : (i : ℕ) → nat_lt at (place i) ≡ nat_lt n i
    end_same i = by (leb_tells (suc n) i)
      where
        by : ((nat_lt n i ≡ true) × (suc n ≤ i)) ⊎ ((nat_lt n i ≡ false) × (i < suc n)) → nat_lt at (place i) ≡ nat_lt n i
        by (inl h) = let a = mono i (suc n) h.1 in lt-ltb at (place i) (omega (arith, a, high)) ∙ sym h.0
        by (inr h) = over (leb_tells (suc at) (place i))
          where
            over : ((nat_lt at (place i) ≡ true) × (suc at ≤ place i)) ⊎ ((nat_lt at (place i) ≡ false) × (place i < suc at)) → nat_lt at (place i) ≡ nat_lt n i
            over (inl j) = let a = mono n i (let l = h.1 in omega (arith, l)) in let l = j.1 in let f : ⊥ = omega (arith, a, l, low) in absurd f
            over (inr j) = j.0 ∙ sym h.0

    covers_same : (r : NamedRegion) → covers at (placed_region p k m b accepted r) ≡ covers n r
    covers_same r = ap (λ z. z && nat_lt at (place r.end)) (first_same r.first) ∙ ap (λ z. nat_le r.first n && z) (end_same r.end)

    handler_same : (above : Text → Bool) (rs : List NamedRegion)
        → option_and_then (handler_in above) (find (covers at) (map (placed_region p k m b accepted) rs)) ≡ option_map place (option_and_then (handler_in above) (find (covers n) rs))
    handler_same above [] = refl
    handler_same above (r ∷ rs) = subst (λ z. option_and_then (handler_in above) (cond z (Some (placed_region p k m b accepted r)) (find (covers at) (map (placed_region p k m b accepted) rs)))
        ≡ option_map place (option_and_then (handler_in above) (cond (covers n r) (Some r) (find (covers n) rs)))) (sym (covers_same r)) (by (covers n r) (handler_same above rs))
      where
        by : (t : Bool) → option_and_then (handler_in above) (find (covers at) (map (placed_region p k m b accepted) rs)) ≡ option_map place (option_and_then (handler_in above) (find (covers n) rs))
            → option_and_then (handler_in above) (cond t (Some (placed_region p k m b accepted r)) (find (covers at) (map (placed_region p k m b accepted) rs)))
            ≡ option_map place (option_and_then (handler_in above) (cond t (Some r) (find (covers n) rs)))
        by true i = placed_handlers above r.rest r.handlers
        by false i = i

    pub handlers_same : (above : Text → Bool) → handler_at above at new ≡ option_map place (handler_at above n b)
    handlers_same above = handler_same above b.regions

  copy_zero : (t : Taken) (fs : List Form) → copy_place t fs 0 ≡ 0
  copy_zero t [] = refl
  copy_zero t (f ∷ fs) = refl

  -- ---- the law's conditions

  module _ (find other : Bodies) (need : MethodKey → ℕ → ℕ → Type 0) (ok : AreAccepted p find need k b accepted) where
    among : (n : ℕ) (y : Callee) → sites n ≡ Some y → is_among accepted n ≡ true
    among n y = by (is_among accepted n)
      where
        by : (t : Bool) → (if t then callee_of p (form_at b n) else None) ≡ Some y → t ≡ true
        by true d = refl
        by false d = none_some y d

    no_site : (n : ℕ) → callee_of p (form_at b n) ≡ None → sites n ≡ None
    no_site n = by (is_among accepted n)
      where
        by : (t : Bool) → callee_of p (form_at b n) ≡ None → (if t then callee_of p (form_at b n) else None) ≡ None
        by true e = e
        by false e = refl

    after_size : (n : ℕ) (o : Option Callee) → sites n ≡ o → place (suc n) ≡ place n + size_of shift b accepted n o
    after_size n o d = ap (λ z. place n + size_of shift b accepted n z) d

    kept_size : (n : ℕ) → is_dropped b accepted n ≡ false → sites n ≡ None → place (suc n) ≡ place n + 1
    kept_size n e d = after_size n None d ∙ ap (λ z. place n + (if z then 0 else 1)) e

    dropped_size : (n : ℕ) → is_dropped b accepted n ≡ true → sites n ≡ None → place (suc n) ≡ place n
    dropped_size n e d = after_size n None d ∙ ap (λ z. place n + (if z then 0 else 1)) e ∙ plus_zero (place n)

    two_suc : (n : ℕ) → n + 2 ≡ suc (suc n)
    two_suc n = omega arith

    behind_of : (n : ℕ) (y : Callee) → sites n ≡ Some y → Behind b place n (taken_by (form_at b (n + 1))) (place (n + 1))
    behind_of n y d = by (form_at b (n + 1)) refl
      where
        by : (o : Option Form) → form_at b (n + 1) ≡ o → Behind b place n (taken_by o) (place (n + 1))
        by None e = Untaken (ap takes_result e)
        by (Some (form.MoveResult s to)) e =
            let e' : form_at b (suc n) ≡ Some (form.MoveResult s to) = ap (form_at b) (sym (next_is n)) ∙ e in
            let gone : is_dropped b accepted (suc n) ≡ true = ap (λ z. is_among accepted n && is_taken (taken_by z)) e' ∙ ap (λ z. z && true) (among n y d) in
            let q : place (n + 2) ≡ place (n + 1) = ap place (two_suc n) ∙ dropped_size (suc n) gone (no_site (suc n) (ap (callee_of p) e')) ∙ ap place (sym (next_is n)) in
            subst (λ z. Behind b place n (Some (s, to)) z) q (TakenBy s to e)
        by (Some f) e = Untaken (ap takes_result e)

    is_copied : (n : ℕ) (x : Form) (y : Callee) → form_at b n ≡ Some x → sites n ≡ Some y → IsCopied b new place up shift n y
    is_copied n x y e d =
        let t : Taken = taken_by (form_at b (n + 1)) in
        let moves : List Form = moves_of shift y in
        let first : ℕ = place n + length moves in
        let end : ℕ = place (n + 1) in
        let placed = placed_at n x e in
        let all : List Piece = copies p k m b accepted y n first end t 0 y.body.forms in
        let split : forms (inlined_call p k m b accepted n y) ≡ moves ++ forms all = map_append (λ q. q.form) (map (piece p k m b accepted n) moves) all
        ∙ ap (λ l. l ++ forms all) (of_pieces (piece p k m b accepted n) (λ x. refl) moves) in
        let whole : Tail new.forms (place n) (moves ++ (forms all ++ placed.0)) = (λ j. placed.1 j ∙ ap (λ o. slice_get (forms (pieces_at p k m b accepted n x o) ++ placed.0) j) d
        ∙ ap (λ l. slice_get (l ++ placed.0) j) split ∙ ap (λ l. slice_get l j) (append_assoc moves (forms all) placed.0)) in
        let copy : Tail new.forms first (forms all ++ placed.0) = tail_on new.forms (place n) first moves (forms all ++ placed.0) whole refl in
        let after : place (suc n) ≡ place n + (length moves + copy_place t y.body.forms (length y.body.forms)) = after_size n (Some y) d in
        record {
          inner = inner y n first end t;
          taken = t;
          end = end;
          behind = behind_of n y d;
          moves = stands_from moves (forms all ++ placed.0) (place n) whole;
          begins = ap (λ z. first + z) (copy_zero t y.body.forms) ∙ plus_zero first;
          copies = λ j h. let s = ok.suits n j y d h in let c = copy_at y n first end t y.body.forms 0 j s.0 s.1.0 placed.0 first copy in
              (s.0, (s.1.0, copied_as y n first end t t j s.0 s.1.1 c.0 c.1 (inner_next y n first end t j s.0 s.1.0)));
          handlers = λ j f g throws above. handlers_same n (inner y n first end t j) (within (place n) (length moves) (copy_place t y.body.forms j))
              (let c = copy_within t y.body.forms j f g in beyond (place n) (length moves) (copy_place t y.body.forms j) (copy_place t y.body.forms (length y.body.forms)) (place (suc n)) c after) above;
        }
      where
        within : (a l c : ℕ) → a ≤ a + l + c
        within a l c = omega arith

        beyond : (a l c d e : ℕ) → c < d → e ≡ a + (l + d) → a + l + c < e
        beyond a l c d e h q = omega (arith, h, q)

    untaken_by : (o : Option Form) → takes_result o ≡ false → is_taken (taken_by o) ≡ false
    untaken_by None e = refl
    untaken_by (Some (form.MoveResult s to)) e = absurd (true≢false e)
    untaken_by (Some f) e = refl

    undropped : (n : ℕ) → Lives b sites n → is_dropped b accepted n ≡ false
    undropped zero h = refl
    undropped (suc n) h = by (is_among accepted n) refl
      where
        by : (t : Bool) → is_among accepted n ≡ t → (t && is_taken (taken_by (form_at b (suc n)))) ≡ false
        by false e = refl
        by true e = untaken_by (form_at b (suc n)) (h n (sym (next_is n)) (ap (λ z. is_some (if z then callee_of p (form_at b n) else None)) e ∙ ok.sites n e))

    kept_here : (n : ℕ) (x : Form) → form_at b n ≡ Some x → sites n ≡ None → is_dropped b accepted n ≡ false → form_at new (place n) ≡ Some (remade up up place x)
    kept_here n x e d g = let placed = placed_at n x e in
        tail_first new.forms (place n) (remade up up place x) placed.0 (λ j. placed.1 j ∙ ap (λ o. slice_get (forms (pieces_at p k m b accepted n x o) ++ placed.0) j) d
        ∙ ap (λ z. slice_get (forms (if z then [] else piece p k m b accepted n (remade (λ r. r + shift) (λ r. r + shift) place x) ∷ []) ++ placed.0) j) g)

    went : (n : ℕ) → Lives b sites n → Went find need k b new place up shift n (form_at b n) (sites n)
    went n lives = by (form_at b n) (sites n) refl refl
      where
        by : (o : Option Form) (c : Option Callee) → form_at b n ≡ o → sites n ≡ c → Went find need k b new place up shift n o c
        by None None e d = Past (past_at n e)
        by None (Some y) e d = none_some y (sym (no_site n (ap (callee_of p) e)) ∙ d)
        by (Some x) (Some y) e d = Replaced x y (ok.callees n x y e d) (is_copied n x y e d)
        by (Some x) None e d =
            let g = undropped n lives in
            let a : place (suc n) ≡ place n + 1 = kept_size n g d in
            Stood x (kept_here n x e d g) (ap place (next_is n) ∙ a) (λ t above. handlers_same n (place n) (omega arith) (omega (arith, a)) above)

    -- the body of the definition is one with inlined calls
    pub inlined_is : IsInlined find need k sites b new
    inlined_is = record {
      at = place;
      up = up;
      shift = shift;
      ups = λ r. omega arith;
      registers = refl;
      ins = refl;
      room = ok.room;
      entry = refl;
      in_place = ok.in_place;
      went = λ n h l. went n l;
    }
