-- The squeezed table is a typing of the squeezed body.
use Rattle.std.proofs.Common.{◌≡◌, ◌⊎◌, inl, inr, ℕ, zero, suc, ◌+◌, ◌<◌, ◌≤◌, Bool, true, false, true≢false, List, [], ◌∷◌, ◌++◌, length, refl, sym, ap, ◌∙◌, subst, arith}
use Rattle.std.specs.Prelude.{◌&&◌, not, Option, Some, None, slice_get, map, if◌then◌else◌, Contains}
use Rattle.std.specs.List.{list_all}
use Rattle.std.specs.Option.{option_map}
use Rattle.lemmas.proofs.Bools.{and_right}
use Rattle.lemmas.proofs.Lists.{all_append, all_first, all_in, all_last, all_of, contains_here, get_there, got_short, map_append}
use Rattle.lemmas.proofs.Numbers.{next_is}
use Rattle.lemmas.proofs.Options.{none_some}
use Rattle.dalvik_defs.specs.declared.forms.Form.{Form}
use Rattle.dalvik_defs.specs.declared.forms.Form.TheVariants as form
use Rattle.dalvik_defs.specs.declared.program.NamedHandler.{NamedHandler}
use Rattle.dalvik_defs.specs.declared.program.NamedRegion.{NamedRegion}
use Rattle.dalvik_defs.specs.declared.program.NamedBody.{NamedBody}
use Rattle.dalvik_defs.specs.declared.program.NamedMethod.{NamedMethod}
use Rattle.dalvik_defs.specs.declared.program.NamedClass.{NamedClass}
use Rattle.dalvik_defs.specs.declared.program.NamedProgram.{NamedProgram}
use Rattle.pass_defs.specs.Bare.{may_throw, continues, targets}
use Rattle.pass_defs.specs.Kinds.{Kind, Reference, is_below, kind_of}
use Rattle.pass_defs.specs.Registers.{Kinds, all_below, kinds_below, state_below}
use Rattle.pass_defs.specs.Demands.{is_allowed}
use Rattle.pass_defs.specs.Remade.{retargeted}
use Rattle.pass_defs.specs.Thinned.{Fate, Stays, Empties, Goes, place, moved_handler, moved, thinned}
use Rattle.pass_defs.specs.Typed.{begun, after, is_wrong, catch_all, catches_in, catches, edges, Table, state_at, each, at_state, arrives, IsTyping}
use Rattle.pass_defs.specs.Walks.{form_at, region_at, onward, caught, next_position, listed, handlers_of, handlers_at}
use Rattle.program_laws.proofs.Walks.{goes_next}
use Rattle.program_laws.proofs.ChangedLists.{and_left, and_both, all_map}
use Rattle.thin_laws.specs.Squeezing.{IsSkipped, Nop, Over}
use Rattle.thin_laws.proofs.Places.{IsLeft, place_next, place_gone, left_as, form_left}
use Rattle.thin_laws.proofs.Catches.{end_of, region_before, region_same}
use Rattle.thin_laws.proofs.Fates.{Further, comes_before}
use Rattle.thin_laws.specs.Renamed.{renamed, kinds_renamed}
use Rattle.thin_laws.specs.Squeezed.{IsTransitive, SqueezesMarked, site, marked, squeezed_table}
use Rattle.thin_laws.proofs.Orders.{kind_fixed, state_kept}
use Rattle.thin_laws.proofs.Demanded.{allowed_kept, wrong_kept}
use Rattle.thin_laws.proofs.Leaves.{after_kept, begun_kept}
use Rattle.thin_laws.proofs.Sites.{sites_apart, site_left, marked_at, mapped_at, left_state, marked_long, left_long, come_from}

-- ---- lists and numbers

state_within : (t : Table) (n : ℕ) (a : Kinds) → state_at t n ≡ Some a → n < length t
state_within [] n a e = none_some a e
state_within (x ∷ t) zero a e = omega arith
state_within (x ∷ t) (suc n) a e = let l = state_within t n a e in omega (arith, l)

lower : (k n : ℕ) → k < n → k < suc n
lower k n l = omega arith

own : (n : ℕ) → n < suc n
own n = omega arith

or_less : (k n : ℕ) → k < suc n → (k < n) ⊎ (k ≡ n)
or_less zero zero l = inr refl
or_less zero (suc n) l = inl (omega arith)
or_less (suc k) zero l = let f : ⊥ = omega (arith, l) in absurd f
or_less (suc k) (suc n) l = by (or_less k n (omega (arith, l)))
  where
    by : (k < n) ⊎ (k ≡ n) → (suc k < suc n) ⊎ (suc k ≡ suc n)
    by (inl m) = inl (omega (arith, m))
    by (inr e) = inr (ap suc e)

each_all : (n : ℕ) (f : ℕ → Bool) → ((k : ℕ) → k < n → f k ≡ true) → each n f ≡ true
each_all zero f h = refl
each_all (suc n) f h = and_both (each n f) (f n) (each_all n f (λ k l. h k (lower k n l))) (h n (own n))

each_at : (n : ℕ) (f : ℕ → Bool) (k : ℕ) → each n f ≡ true → k < n → f k ≡ true
each_at zero f k e l = let g : ⊥ = omega (arith, l) in absurd g
each_at (suc n) f k e l = by (or_less k n l) (each_at n f k (and_left (each n f) (f n) e))
  where
    by : (k < n) ⊎ (k ≡ n) → (k < n → f k ≡ true) → f k ≡ true
    by (inl m) again = again m
    by (inr d) again = ap f d ∙ and_right (each n f) (f n) e

no_room : {A : Type 0} (a n : ℕ) → a ≤ n + 0 → n < a → A
no_room a n l m = let f : ⊥ = omega arith in absurd f

jump_room : (a n k t : ℕ) → a ≤ n + suc k → n < t → a ≤ t + k
jump_room a n k t l m = omega arith

fits_in : (n a : ℕ) → a ≤ n + a
fits_in n a = omega arith

more : (n : ℕ) → n < n + 1
more n = omega arith

-- ---- forms with other targets

module _ (at : ℕ → ℕ) where
  continues_same : (f : Form) → continues (retargeted at f) ≡ continues f
  continues_same (form.Goto target) = refl
  continues_same f = refl

  throws_same : (f : Form) → may_throw (retargeted at f) ≡ may_throw f
  throws_same (form.Goto target) = refl
  throws_same f = refl

  targets_same : (f : Form) → targets (retargeted at f) ≡ map at (targets f)
  targets_same (form.Goto target) = refl
  targets_same f = refl

-- ---- the order of kinds

module _ (p : NamedProgram) (above : IsTransitive p) where
  all_above : (ks ls ms : List Kind) → all_below p ks ls ≡ true → all_below p ls ms ≡ true → all_below p ks ms ≡ true
  all_above [] [] ms e d = d
  all_above [] (l ∷ ls) ms e d = absurd (true≢false (sym e))
  all_above (k ∷ ks) [] ms e d = absurd (true≢false (sym e))
  all_above (k ∷ ks) (l ∷ ls) [] e d = absurd (true≢false (sym d))
  all_above (k ∷ ks) (l ∷ ls) (m ∷ ms) e d = and_both (is_below p k m) (all_below p ks ms)
      (above k l m (and_left (is_below p k l) (all_below p ks ls) e) (and_left (is_below p l m) (all_below p ls ms) d))
      (all_above ks ls ms (and_right (is_below p k l) (all_below p ks ls) e) (and_right (is_below p l m) (all_below p ls ms) d))

  four : (w x y z w' x' y' z' w'' x'' y'' z'' : Bool) → (w ≡ true → w' ≡ true → w'' ≡ true) → (x ≡ true → x' ≡ true → x'' ≡ true) → (y ≡ true → y' ≡ true → y'' ≡ true) → (z ≡ true → z' ≡ true → z'' ≡ true)
      → (w && x && y && z) ≡ true → (w' && x' && y' && z') ≡ true → (w'' && x'' && y'' && z'') ≡ true
  four w x y z w' x' y' z' w'' x'' y'' z'' f g i j e d =
      let e3 = and_left (w && x && y) z e in let d3 = and_left (w' && x' && y') z' d in
      let e2 = and_left (w && x) y e3 in let d2 = and_left (w' && x') y' d3 in
      and_both (w'' && x'' && y'') z'' (and_both (w'' && x'') y'' (and_both w'' x'' (f (and_left w x e2) (and_left w' x' d2)) (g (and_right w x e2) (and_right w' x' d2)))
      (i (and_right (w && x) y e3) (and_right (w' && x') y' d3))) (j (and_right (w && x && y) z e) (and_right (w' && x' && y') z' d))

  kinds_above : (a b : Kinds) (o : Option Kinds) → kinds_below p a b ≡ true → state_below p (Some b) o ≡ true → state_below p (Some a) o ≡ true
  kinds_above a b None e d = d
  kinds_above a b (Some c) e d = four (all_below p a.registers b.registers) (is_below p a.result b.result) (is_below p a.caught b.caught) (is_below p a.receiver b.receiver)
      (all_below p b.registers c.registers) (is_below p b.result c.result) (is_below p b.caught c.caught) (is_below p b.receiver c.receiver)
      (all_below p a.registers c.registers) (is_below p a.result c.result) (is_below p a.caught c.caught) (is_below p a.receiver c.receiver)
      (all_above a.registers b.registers c.registers) (above a.result b.result c.result) (above a.caught b.caught c.caught) (above a.receiver b.receiver c.receiver) e d

  some_state : (x : Kinds) (o : Option Kinds) → state_below p (Some x) o ≡ true → (a : Kinds) × ((o ≡ Some a) × (kinds_below p x a ≡ true))
  some_state x None e = absurd (true≢false (sym e))
  some_state x (Some a) e = (a, (refl, e))

-- where a form that is skipped goes
record Skip (p : NamedProgram) (c : NamedClass) (fs : List Fate) (n : ℕ) (f : Form) : Type 0 where
  to : ℕ
  ahead : n < to
  beside : place fs to ≡ place fs (n + 1)
  goes : Contains (onward f n) to
  same : (a : Kinds) → after p c n f a ≡ a

skip : (p : NamedProgram) (c : NamedClass) (fs : List Fate) (n : ℕ) (f : Form) → IsSkipped fs n f → Skip p c fs n f
skip p c fs n _ Nop = record { to = n + 1; ahead = more n; beside = refl; goes = goes_next form.Nop n refl; same = λ a. refl }
skip p c fs n _ (Over m l e) = record { to = m; ahead = l; beside = e; goes = contains_here m []; same = λ a. refl }

module _ (p : NamedProgram) (above : IsTransitive p) (c : NamedClass) (m : NamedMethod) (b : NamedBody) (t : Table) (typing : IsTyping p c m b t) (marks : ℕ → Bool) (fs : List Fate) (h : SqueezesMarked marks fs b) where
  abbrev at : ℕ → ℕ
  at = place fs

  abbrev s : ℕ → ℕ
  s = site fs

  abbrev mvs : Kinds → Kinds
  mvs = kinds_renamed s

  abbrev thin : NamedBody
  thin = thinned fs b

  abbrev u : Table
  u = squeezed_table marks fs t

  is_marked : (n : ℕ) (f : Fate) → slice_get fs n ≡ Some f → IsLeft (Some f) → marks n ≡ true
  is_marked n f e l = h.left n f e (λ d. subst (λ z. IsLeft (Some z)) d l)

  state_left : (n : ℕ) (f : Fate) → slice_get fs n ≡ Some f → IsLeft (Some f) → state_at u (at n) ≡ option_map mvs (state_at t n)
  state_left n f e l = left_state fs (map (option_map mvs) (marked marks t)) n f e l ∙ mapped_at mvs (marked marks t) n ∙ ap (option_map mvs) (marked_at marks t n (is_marked n f e l))

  -- ---- edges of the body

  test_at : (test : ℕ → Form → Kinds → Bool) → each (length b.forms) (λ n. at_state b t (test n) n) ≡ true → (n : ℕ) (f : Form) (a : Kinds) → form_at b n ≡ Some f → state_at t n ≡ Some a → test n f a ≡ true
  test_at test k n f a e d = sym (ap (λ o. elim o as (λ o. Bool) [ Some f ↦ elim (state_at t n) as (λ o. Bool) [ Some a ↦ test n f a | None ↦ true ] | None ↦ true ]) e
      ∙ ap (λ o. elim o as (λ o. Bool) [ Some a ↦ test n f a | None ↦ true ]) d) ∙ each_at (length b.forms) (λ n. at_state b t (test n) n) n k (got_short b.forms n f e)

  edges_at : (n : ℕ) (f : Form) (a : Kinds) → form_at b n ≡ Some f → state_at t n ≡ Some a → list_all (arrives p t) (edges p c b n f a) ≡ true
  edges_at n f a e d = test_at (λ n f a. list_all (arrives p t) (edges p c b n f a)) typing.edges n f a e d

  onward_at : (n : ℕ) (f : Form) (a : Kinds) → form_at b n ≡ Some f → state_at t n ≡ Some a → list_all (λ q. arrives p t (q, after p c n f a)) (onward f n) ≡ true
  onward_at n f a e d = sym (all_map (arrives p t) (λ q. (q, after p c n f a)) (onward f n))
      ∙ all_first (arrives p t) (map (λ q. (q, after p c n f a)) (onward f n)) (map (λ x. (x.0, record a { caught = x.1 })) (catches p b n f)) (edges_at n f a e d)

  caught_at : (n : ℕ) (f : Form) (a : Kinds) → form_at b n ≡ Some f → state_at t n ≡ Some a → list_all (λ (x : ℕ × Kind). arrives p t (x.0, record a { caught = x.1 })) (catches p b n f) ≡ true
  caught_at n f a e d = sym (all_map (arrives p t) (λ (x : ℕ × Kind). (x.0, record a { caught = x.1 })) (catches p b n f))
      ∙ all_last (arrives p t) (map (λ q. (q, after p c n f a)) (onward f n)) (map (λ x. (x.0, record a { caught = x.1 })) (catches p b n f)) (edges_at n f a e d)

  skipped_at : (n : ℕ) (f : Form) (a : Kinds) → form_at b n ≡ Some f → state_at t n ≡ Some a → (k : Skip p c fs n f) → state_below p (Some a) (state_at t k.to) ≡ true
  skipped_at n f a e d k = ap (λ x. state_below p (Some x) (state_at t k.to)) (sym (k.same a)) ∙ all_in (λ q. arrives p t (q, after p c n f a)) (onward f n) k.to k.goes (onward_at n f a e d)

  -- ---- what arrives

  arrive_within : (k n : ℕ) → length b.forms ≤ n + k → marks n ≡ true → (x : Kinds) → state_below p (Some x) (state_at t n) ≡ true → state_below p (Some (mvs x)) (state_at u (at n)) ≡ true
  arrive_within zero n l mk x e =
      let r = some_state p above x (state_at t n) e in
      no_room (length b.forms) n l (subst (λ z. n < z) typing.long (state_within t n r.0 r.1.0))
  arrive_within (suc k) n l mk x e =
      let r = some_state p above x (state_at t n) e in
      let w : n < length b.forms = subst (λ z. n < z) typing.long (state_within t n r.0 r.1.0) in
      let f = get_there b.forms n w in
      let g = get_there fs n (subst (λ z. n < z) (sym h.long) w) in
      by r.0 r.1.0 r.1.1 f.0 f.1 g.0 g.1 (arrive_within k)
    where
      Again : Type 0
      Again = (n : ℕ) → length b.forms ≤ n + k → marks n ≡ true → (x : Kinds) → state_below p (Some x) (state_at t n) ≡ true → state_below p (Some (mvs x)) (state_at u (at n)) ≡ true

      stands : (g : Fate) → slice_get fs n ≡ Some g → IsLeft (Some g) → state_below p (Some (mvs x)) (state_at u (at n)) ≡ true
      stands g i j = ap (state_below p (Some (mvs x))) (state_left n g i j) ∙ state_kept s (sites_apart fs) p (Some x) (state_at t n) ∙ e

      by : (a : Kinds) → state_at t n ≡ Some a → kinds_below p x a ≡ true → (f : Form) → form_at b n ≡ Some f → (g : Fate) → slice_get fs n ≡ Some g → Again → state_below p (Some (mvs x)) (state_at u (at n)) ≡ true
      by a d v f y Stays i again = stands Stays i tt
      by a d v f y Empties i again = stands Empties i tt
      by a d v f y Goes i again =
          let j = skip p c fs n f (h.skipped n f Goes mk y i refl) in
          subst (λ q. state_below p (Some (mvs x)) (state_at u q) ≡ true) (j.beside ∙ ap at (next_is n) ∙ place_gone fs n i)
          (again j.to (jump_room (length b.forms) n k j.to l j.ahead) (h.onward n j.to f mk y j.goes) x (kinds_above p above x a (state_at t j.to) v (skipped_at n f a y d j)))

  arrive : (n : ℕ) → marks n ≡ true → (x : Kinds) → state_below p (Some x) (state_at t n) ≡ true → state_below p (Some (mvs x)) (state_at u (at n)) ≡ true
  arrive n mk x e = arrive_within (length b.forms) n (fits_in n (length b.forms)) mk x e

  -- no marked position comes to stand behind the end
  goes_further : (n : ℕ) (f : Form) → marks n ≡ true → form_at b n ≡ Some f → slice_get fs n ≡ Some Goes → Further fs (λ q. marks q ≡ true) n
  goes_further n f mk e i = let j = skip p c fs n f (h.skipped n f Goes mk e i refl) in record { to = j.to; ahead = j.ahead; beside = j.beside; there = h.onward n j.to f mk e j.goes }

  lands : (n : ℕ) → marks n ≡ true → place fs n < end_of fs b
  lands n mk = comes_before fs b h.long (λ q. marks q ≡ true) h.within goes_further n mk

  -- ---- edges of what is left

  module _ (n : ℕ) (f : Form) (a : Kinds) (here : form_at b n ≡ Some f) (has : state_at t n ≡ Some a) (mk : marks n ≡ true) where
    abbrev P : ℕ × Kind → Bool
    P x = arrives p u (x.0, record (mvs a) { caught = x.1 })

    abbrev Q : ℕ × Kind → Bool
    Q x = arrives p t (x.0, record a { caught = x.1 })

    one_caught : (q : ℕ) (k : Kind) → renamed s k ≡ k → marks q ≡ true → Q (q, k) ≡ true → P (at q, k) ≡ true
    one_caught q k e i j = ap (λ z. arrives p u (at q, record (mvs a) { caught = z })) (sym e) ∙ arrive q i (record a { caught = k }) j

    handlers_caught : (xs : List NamedHandler) → list_all marks (map (λ x. x.position) xs) ≡ true → list_all Q (map (λ x. (x.position, kind_of p x.kind)) xs) ≡ true
        → list_all P (map (λ x. (x.position, kind_of p x.kind)) (map (moved_handler at) xs)) ≡ true
    handlers_caught [] i j = refl
    handlers_caught (x ∷ xs) i j = and_both (P (at x.position, kind_of p x.kind)) (list_all P (map (λ x. (x.position, kind_of p x.kind)) (map (moved_handler at) xs)))
        (one_caught x.position (kind_of p x.kind) (kind_fixed s (sites_apart fs) p x.kind) (and_left (marks x.position) (list_all marks (map (λ x. x.position) xs)) i) (and_left (Q (x.position, kind_of p x.kind)) (list_all Q (map (λ x. (x.position, kind_of p x.kind)) xs)) j))
        (handlers_caught xs (and_right (marks x.position) (list_all marks (map (λ x. x.position) xs)) i) (and_right (Q (x.position, kind_of p x.kind)) (list_all Q (map (λ x. (x.position, kind_of p x.kind)) xs)) j))

    rest_caught : (o : Option ℕ) → list_all marks (listed o) ≡ true → list_all Q (catch_all o) ≡ true → list_all P (catch_all (option_map at o)) ≡ true
    rest_caught None i j = refl
    rest_caught (Some q) i j = and_both (P (at q, Reference)) true (one_caught q Reference refl (and_left (marks q) true i) (and_left (Q (q, Reference)) true j)) refl

    region_caught : (o : Option NamedRegion) → list_all marks (handlers_of o) ≡ true → list_all Q (catches_in p o) ≡ true → list_all P (catches_in p (option_map (moved at) o)) ≡ true
    region_caught None i j = refl
    region_caught (Some r) i j = all_append P (map (λ x. (x.position, kind_of p x.kind)) (map (moved_handler at) r.handlers)) (catch_all (option_map at r.rest))
        (handlers_caught r.handlers (all_first marks (map (λ x. x.position) r.handlers) (listed r.rest) i) (all_first Q (map (λ x. (x.position, kind_of p x.kind)) r.handlers) (catch_all r.rest) j))
        (rest_caught r.rest (all_last marks (map (λ x. x.position) r.handlers) (listed r.rest) i) (all_last Q (map (λ x. (x.position, kind_of p x.kind)) r.handlers) (catch_all r.rest) j))

    module _ (is_left : IsLeft (slice_get fs n)) where
      onward_same : onward (retargeted at f) (at n) ≡ map at (onward f n)
      onward_same = ap (λ l. next_position (continues (retargeted at f)) (at n) ++ l) (targets_same at f) ∙ ap (λ x. next_position x (at n) ++ map at (targets f)) (continues_same at f)
          ∙ ap (λ l. l ++ map at (targets f)) (next (continues f)) ∙ sym (map_append at (next_position (continues f) n) (targets f))
        where
          next : (x : Bool) → next_position x (at n) ≡ map at (next_position x n)
          next true = ap (λ q. q ∷ []) (sym (ap at (next_is n) ∙ place_next fs n is_left ∙ sym (next_is (at n))))
          next false = refl

      caught_left : (x : Bool) → may_throw f ≡ x → list_all Q (if x then catches_in p (region_at b n) else []) ≡ true → list_all P (if x then catches_in p (region_at thin (at n)) else []) ≡ true
      caught_left false e j = refl
      caught_left true e j = ap (λ o. list_all P (catches_in p o)) (region_same fs (end_of fs b) n is_left b.regions (region_before fs b n (λ q i. lands q (marked_there q i))))
          ∙ region_caught (region_at b n) (all_of marks (handlers_at b n) marked_there) j
        where
          marked_there : (q : ℕ) → Contains (handlers_at b n) q → marks q ≡ true
          marked_there q i = h.caught n q f mk here (subst (λ x. Contains (elim x as (λ x. List ℕ) [ true ↦ handlers_at b n | false ↦ [] ]) q) (sym e) i)

      edges_left : after p c (at n) (retargeted at f) (mvs a) ≡ mvs (after p c n f a) → list_all (arrives p u) (edges p c thin (at n) (retargeted at f) (mvs a)) ≡ true
      edges_left same =
          let x = after p c (at n) (retargeted at f) (mvs a) in
          all_append (arrives p u) (map (λ q. (q, x)) (onward (retargeted at f) (at n))) (map (λ y. (y.0, record (mvs a) { caught = y.1 })) (catches p thin (at n) (retargeted at f)))
          (all_map (arrives p u) (λ q. (q, x)) (onward (retargeted at f) (at n)) ∙ ap (list_all (λ q. arrives p u (q, x))) onward_same ∙ all_map (λ q. arrives p u (q, x)) at (onward f n)
          ∙ all_of (λ q. arrives p u (at q, x)) (onward f n) (λ q i. ap (λ z. arrives p u (at q, z)) same
          ∙ arrive q (h.onward n q f mk here i) (after p c n f a) (all_in (λ q. arrives p t (q, after p c n f a)) (onward f n) q i (onward_at n f a here has))))
          (all_map (arrives p u) (λ (y : ℕ × Kind). (y.0, record (mvs a) { caught = y.1 })) (catches p thin (at n) (retargeted at f))
          ∙ ap (λ z. list_all P (if z then catches_in p (region_at thin (at n)) else [])) (throws_same at f) ∙ caught_left (may_throw f) refl (caught_at n f a here has))

  -- ---- each position

  -- what is asked of the body's forms gives what is asked of what is left of them
  module _ (other : ℕ → Form → Kinds → Bool) (step : (n : ℕ) (g : Fate) (f : Form) (a : Kinds) → slice_get fs n ≡ Some g → IsLeft (Some g) → form_at b n ≡ Some f → state_at t n ≡ Some a → other (at n) (left_as at g f) (mvs a) ≡ true) where
    one_left : (n : ℕ) (g : Fate) (f : Form) → slice_get fs n ≡ Some g → IsLeft (Some g) → form_at b n ≡ Some f → (o : Option Kinds) → state_at t n ≡ o → at_state thin u (other (at n)) (at n) ≡ true
    one_left n g f i l e o d = ap (λ y. elim y as (λ y. Bool) [ Some f ↦ elim (state_at u (at n)) as (λ y. Bool) [ Some a ↦ other (at n) f a | None ↦ true ] | None ↦ true ]) (form_left at fs b.forms n g f i e l)
        ∙ ap (λ y. elim y as (λ y. Bool) [ Some a ↦ other (at n) (left_as at g f) a | None ↦ true ]) (state_left n g i l ∙ ap (option_map mvs) d) ∙ by o d
      where
        by : (o : Option Kinds) → state_at t n ≡ o → elim (option_map mvs o) as (λ y. Bool) [ Some a ↦ other (at n) (left_as at g f) a | None ↦ true ] ≡ true
        by None d = refl
        by (Some a) d = step n g f a i l e d

    all_left : each (length thin.forms) (λ j. at_state thin u (other j) j) ≡ true
    all_left = each_all (length thin.forms) (λ j. at_state thin u (other j) j) (λ j l. let r = come_from at fs b.forms j l in
        subst (λ k. at_state thin u (other k) k ≡ true) r.there (one_left r.position r.fate r.form r.has_fate r.is_left r.has_form (state_at t r.position) refl))

  read_step : (n : ℕ) (g : Fate) (f : Form) (a : Kinds) → slice_get fs n ≡ Some g → IsLeft (Some g) → form_at b n ≡ Some f → state_at t n ≡ Some a → is_allowed p c m (mvs a) (left_as at g f) ≡ true
  read_step n Stays f a i l e d = allowed_kept s (sites_apart fs) p c m at a f ∙ test_at (λ n f a. is_allowed p c m a f) typing.reads n f a e d
  read_step n Empties f a i l e d = refl
  read_step n Goes f a i l e d = absurd l

  right_step : (n : ℕ) (g : Fate) (f : Form) (a : Kinds) → slice_get fs n ≡ Some g → IsLeft (Some g) → form_at b n ≡ Some f → state_at t n ≡ Some a → not (is_wrong p c m (mvs a) (left_as at g f)) ≡ true
  right_step n Stays f a i l e d = ap not (wrong_kept s (sites_apart fs) p c m at a f) ∙ test_at (λ n f a. not (is_wrong p c m a f)) typing.right n f a e d
  right_step n Empties f a i l e d = refl
  right_step n Goes f a i l e d = absurd l

  edge_step : (n : ℕ) (g : Fate) (f : Form) (a : Kinds) → slice_get fs n ≡ Some g → IsLeft (Some g) → form_at b n ≡ Some f → state_at t n ≡ Some a → list_all (arrives p u) (edges p c thin (at n) (left_as at g f) (mvs a)) ≡ true
  edge_step n Stays f a i l e d = edges_left n f a e d (is_marked n Stays i l) (subst IsLeft (sym i) tt)
      (ap (λ k. after p c k (retargeted at f) (mvs a)) (sym (site_left fs n Stays i l)) ∙ after_kept s (sites_apart fs) p c at n f a)
  edge_step n Empties f a i l e d =
      let j = skip p c fs n f (h.skipped n f Empties (is_marked n Empties i l) e i refl) in
      and_both (arrives p u (at n + 1, mvs a)) true
      (subst (λ q. arrives p u (q, mvs a) ≡ true) (j.beside ∙ ap at (next_is n) ∙ place_next fs n (subst IsLeft (sym i) tt) ∙ sym (next_is (at n)))
      (arrive j.to (h.onward n j.to f (is_marked n Empties i l) e j.goes) a (skipped_at n f a e d j))) refl
  edge_step n Goes f a i l e d = absurd l

  entry_place : (fs : List Fate) → place fs 0 ≡ 0
  entry_place [] = refl
  entry_place (f ∷ fs) = refl

  mapped_long : (g : Kinds → Kinds) (t : Table) → length (map (option_map g) t) ≡ length t
  mapped_long g [] = refl
  mapped_long g (a ∷ t) = ap suc (mapped_long g t)

  pub squeezed_typing : IsTyping p c m thin u
  squeezed_typing = record {
    long = left_long at fs (map (option_map mvs) (marked marks t)) b.forms (mapped_long mvs (marked marks t) ∙ marked_long marks t ∙ typing.long);
    entry = ap (λ x. state_below p (Some x) (state_at u 0)) (sym (begun_kept s (sites_apart fs) p c m b)) ∙ ap (λ k. state_below p (Some (mvs (begun p c m b))) (state_at u k)) (sym (entry_place fs)) ∙ arrive 0 h.entry (begun p c m b) typing.entry;
    reads = all_left (λ k f a. is_allowed p c m a f) read_step;
    right = all_left (λ k f a. not (is_wrong p c m a f)) right_step;
    edges = all_left (λ k f a. list_all (arrives p u) (edges p c thin k f a)) edge_step;
  }
