-- The walk in depth from its first task to its last.
use Rattle.std.proofs.Common.{◌≡◌, ℕ, ◌+◌, Bool, false, List, [], ◌∷◌, length, sym, subst}
use Rattle.hierarchy.specs.declared.order.Climb.{Climb}
use Rattle.hierarchy.specs.declared.order.Task.{Task}
use Rattle.hierarchy.specs.declared.order.Task.TheVariants.{Come}
use Rattle.hierarchy.specs.Climbing.{IsNew, IsOrder, HasCircle, Follows, todo, ups}
use Rattle.hierarchy.proofs.Climbs.{From, Walks, Going, begins, pushes, follow_round, all_left, whole}

pub new_free : (up : ℕ → List ℕ) (n : ℕ) (ts : List Task) → ts ≡ [] → (u : ℕ) → From up n ts u
new_free up n ts e u = subst (λ l. From up n l u) (sym e) tt

pub new_walks : (up : ℕ → List ℕ) (n : ℕ) (c : Climb) → IsNew n c → Walks up n 0 c (todo c)
new_walks up n c k = subst (λ l. Going up n 0 c.seen.items c.left.items l (todo c)) (sym k.empty) (subst (λ l. Going up n 0 c.seen.items c.left.items [] l) (sym k.nothing)
    (begins up n c.seen.items c.left.items k.seen k.left k.none_seen k.none_left))

pub pushed_free : (up : ℕ → List ℕ) (n class : ℕ) (old new : Climb) → todo new ≡ Come class ∷ todo old → ((u : ℕ) → From up n (todo old) u) → (u : ℕ) → From up n (todo new) u
pushed_free up n class old new e f u = subst (λ l. From up n l u) (sym e) (f u)

pub pushed_walks : (up : ℕ → List ℕ) (n class : ℕ) (old new : Climb) → todo new ≡ Come class ∷ todo old → new.seen ≡ old.seen → new.left ≡ old.left → new.order ≡ old.order → ((u : ℕ) → From up n (todo old) u) → Walks up n class old (todo old) → Walks up n (class + 1) new (todo new)
pushed_walks up n class old new e s l o f g =
    subst (λ v. Going up n (class + 1) v.items new.left.items new.order.items (todo new)) (sym s) (subst (λ v. Going up n (class + 1) old.seen.items v.items new.order.items (todo new)) (sym l)
    (subst (λ v. Going up n (class + 1) old.seen.items old.left.items v.items (todo new)) (sym o) (subst (λ v. Going up n (class + 1) old.seen.items old.left.items old.order.items v) (sym e)
    (pushes up n class old.seen.items old.left.items old.order.items (todo old) f g))))

pub popped_walks : (up : ℕ → List ℕ) (n m : ℕ) (old new : Climb) (ts : List Task) → todo old ≡ ts → new.seen ≡ old.seen → new.left ≡ old.left → new.order ≡ old.order → Walks up n m old (todo old) → Walks up n m new ts
popped_walks up n m old new ts e s l o g =
    subst (λ v. Going up n m v.items new.left.items new.order.items ts) (sym s) (subst (λ v. Going up n m old.seen.items v.items new.order.items ts) (sym l)
    (subst (λ v. Going up n m old.seen.items old.left.items v.items ts) (sym o) (subst (λ v. Going up n m old.seen.items old.left.items old.order.items v) e g)))

pub round_circle : (supers : List ℕ) (rows : List (List ℕ)) (m : ℕ) (old new : Climb) (task : Task) (on : Bool) → on ≡ false → Follows (ups supers rows) old task new on → Walks (ups supers rows) (length supers) m old (task ∷ todo old) → HasCircle supers rows
round_circle supers rows m old new task on e f g =
    let r = follow_round (ups supers rows) (length supers) m old new task on e f g in
    record { class = r.0; short = r.1; is = record { mids = r.2.mids; steps = r.2.steps } }

pub walked_order : (supers : List ℕ) (rows : List (List ℕ)) (c : Climb) → Walks (ups supers rows) (length supers) (length supers) c [] → IsOrder supers rows c.order.items
walked_order supers rows c g = record {
  size = whole (ups supers rows) (length supers) c.seen.items c.left.items c.order.items g;
  all = λ d l. g.listed d l (all_left (ups supers rows) (length supers) c.seen.items c.left.items c.order.items g d l);
  short = λ i d e. (g.marked i d e).0;
  once = g.once;
  behind = g.behind;
}
