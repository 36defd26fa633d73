-- The order of kinds, and frames that are joined into others.
use Rattle.std.proofs.Common.{◌≡◌, ℕ, zero, suc, Bool, true, false, ◌&&◌, ◌||◌, nat_lt, List, [], ◌∷◌, length, Option, Some, None, ◌⊎◌, inl, inr, refl, sym, ap, ◌∙◌, subst, arith}
use Rattle.std.specs.Prelude.{if◌then◌else◌}
use Rattle.std.proofs.lemmas.Bool.{eq-eqb, lt-ltb}
use Rattle.verify.specs.declared.kinds.Kind.{Kind}
use Rattle.verify.specs.declared.kinds.Kind.TheVariants.{Undefined, Word, Zero, WideLow, WideHigh, Fresh, FreshThis, Null, Program, Array, Reference}
use Rattle.verify.specs.declared.tables.Tables.{Tables}
use Rattle.verify.specs.Flow.{rank, rises, raised, raised_all, rises_any, raised_kinds, rises_kinds}
use Rattle.verify.specs.Frames.{Kinds, kind_at}
use Rattle.verify.specs.Joins.{joined}
use Rattle.verify.specs.Kinds.{same_kind, same_number}
use Rattle.verify.specs.Typings.{Below, IsLattice, IsBelow}

both : (a b : Bool) → a ≡ true → b ≡ true → (a && b) ≡ true
both a b p q = rw (p, q) refl

number_itself : (i : Option ℕ) → same_number i i ≡ true
number_itself None = refl
number_itself (Some n) = eq-eqb n n refl

pub kind_itself : (k : Kind) → same_kind k k ≡ true
kind_itself Undefined = refl
kind_itself Word = refl
kind_itself Zero = refl
kind_itself WideLow = refl
kind_itself WideHigh = refl
kind_itself (Fresh c p) = both _ _ (eq-eqb c c refl) (eq-eqb p p refl)
kind_itself FreshThis = refl
kind_itself Null = refl
kind_itself (Program c) = eq-eqb c c refl
kind_itself (Array n i) = both _ _ (eq-eqb n n refl) (number_itself i)
kind_itself Reference = refl

pub same_joined : (t : Tables) (a b : Kind) → same_kind a b ≡ true → joined t a b ≡ a
same_joined t a b e = rw e refl

pub below_itself : (t : Tables) (a : Kind) → Below t a a
below_itself t a = same_joined t a a (kind_itself a)

chosen : (c : Bool) (j o : Kind) → (j ≡ o) ⊎ (c ≡ true) → (if c then j else o) ≡ j
chosen true j o h = refl
chosen false j o (inl e) = sym e
chosen false j o (inr e) = absurd (cc)

module _ (t : Tables) (l : IsLattice t) where
  pub is_joined : (k o : Kind) → raised t k o ≡ joined t o k
  is_joined k o = go (same_kind o k) refl
    where
      go : (b : Bool) → same_kind o k ≡ b → (if b then o else (if nat_lt (rank t (joined t o k)) (rank t o) then joined t o k else o)) ≡ joined t o k
      go true e = sym (same_joined t o k e)
      go false e = chosen (nat_lt (rank t (joined t o k)) (rank t o)) (joined t o k) o (elim (l.falls o k) [ inl q ↦ inl q | inr q ↦ inr (lt-ltb _ _ q) ])

  pub below_on : (a b c : Kind) → Below t a b → Below t b c → Below t a c
  below_on a b c p q =
      let e : joined t a (joined t b c) ≡ joined t b c = sym (l.groups a b c) ∙ ap (λ x. joined t x c) p in
      subst (λ x. joined t a x ≡ x) q e

  pub over_left : (o k : Kind) → Below t o (joined t o k)
  over_left o k = sym (l.groups o o k) ∙ ap (λ x. joined t x k) (below_itself t o)

  pub over_right : (o k : Kind) → Below t k (joined t o k)
  over_right o k = subst (λ x. joined t k x ≡ x) (l.swaps k o) (over_left k o)

  pub least_over : (o k c : Kind) → Below t o c → Below t k c → Below t (joined t o k) c
  least_over o k c p q = l.groups o k c ∙ ap (joined t o) q ∙ p

  pub raised_old : (k o : Kind) → Below t o (raised t k o)
  raised_old k o = subst (Below t o) (sym (is_joined k o)) (over_left o k)

  pub raised_new : (k o : Kind) → Below t k (raised t k o)
  raised_new k o = subst (Below t k) (sym (is_joined k o)) (over_right o k)

  pub raised_least : (k o c : Kind) → Below t k c → Below t o c → Below t (raised t k o) c
  raised_least k o c p q = subst (λ x. Below t x c) (sym (is_joined k o)) (least_over o k c q p)

-- ---- frames

pub raised_one_at : (t : Tables) (ks os : List Kind) (r : ℕ) → length ks ≡ length os → kind_at (raised_all t ks os) r ≡ raised t (kind_at ks r) (kind_at os r)
raised_one_at t [] [] r e = refl
raised_one_at t [] (o ∷ os) r e = absurd (omega arith)
raised_one_at t (k ∷ ks) [] r e = absurd (omega arith)
raised_one_at t (k ∷ ks) (o ∷ os) zero e = refl
raised_one_at t (k ∷ ks) (o ∷ os) (suc r) e = raised_one_at t ks os r (omega arith)

pub raised_all_long : (t : Tables) (ks os : List Kind) → length (raised_all t ks os) ≡ length os
raised_all_long t [] [] = refl
raised_all_long t [] (o ∷ os) = refl
raised_all_long t (k ∷ ks) [] = refl
raised_all_long t (k ∷ ks) (o ∷ os) = ap suc (raised_all_long t ks os)

-- ---- what doesn't rise stays

left_false : (a b : Bool) → (a || b) ≡ false → a ≡ false
left_false true b e = e
left_false false b e = refl

right_false : (a b : Bool) → (a || b) ≡ false → b ≡ false
right_false true b e = absurd (cc)
right_false false b e = e

stays_chosen : (b c : Bool) (j o : Kind) → (if b then false else c) ≡ false → (if b then o else (if c then j else o)) ≡ o
stays_chosen true c j o e = refl
stays_chosen false true j o e = absurd (cc)
stays_chosen false false j o e = refl

pub raised_stays : (t : Tables) (k o : Kind) → rises t k o ≡ false → raised t k o ≡ o
raised_stays t k o e = stays_chosen (same_kind o k) (nat_lt (rank t (joined t o k)) (rank t o)) (joined t o k) o e

raised_all_stays : (t : Tables) (ks os : List Kind) → rises_any t ks os ≡ false → raised_all t ks os ≡ os
raised_all_stays t [] [] e = refl
raised_all_stays t [] (o ∷ os) e = refl
raised_all_stays t (k ∷ ks) [] e = refl
raised_all_stays t (k ∷ ks) (o ∷ os) e =
    let a : raised t k o ≡ o = raised_stays t k o (left_false (rises t k o) (rises_any t ks os) e) in
    let b : raised_all t ks os ≡ os = raised_all_stays t ks os (right_false (rises t k o) (rises_any t ks os) e) in
    ap (λ x. x ∷ raised_all t ks os) a ∙ ap (λ x. o ∷ x) b

made : List Kind → Kind → Kind → Kind → Kinds
made r x y z = record { registers = r; result = x; caught = y; receiver = z }

same_made : (r r' : List Kind) (x x' y y' z z' : Kind) → r ≡ r' → x ≡ x' → y ≡ y' → z ≡ z' → made r x y z ≡ made r' x' y' z'
same_made r r' x x' y y' z z' e f g h = ap (λ k. made k x y z) e ∙ ap (λ k. made r' k y z) f ∙ ap (λ k. made r' x' k z) g ∙ ap (λ k. made r' x' y' k) h

pub kinds_stay : (t : Tables) (a o : Kinds) → rises_kinds t a o ≡ false → raised_kinds t a o ≡ o
unfolding made
kinds_stay t a o e =
    let e1 = left_false (rises_any t a.registers o.registers || rises t a.result o.result || rises t a.caught o.caught) (rises t a.receiver o.receiver) e in
    let e2 = left_false (rises_any t a.registers o.registers || rises t a.result o.result) (rises t a.caught o.caught) e1 in
    same_made _ o.registers _ o.result _ o.caught _ o.receiver
    (raised_all_stays t a.registers o.registers (left_false _ (rises t a.result o.result) e2))
    (raised_stays t a.result o.result (right_false (rises_any t a.registers o.registers) _ e2))
    (raised_stays t a.caught o.caught (right_false (rises_any t a.registers o.registers || rises t a.result o.result) _ e1))
    (raised_stays t a.receiver o.receiver (right_false (rises_any t a.registers o.registers || rises t a.result o.result || rises t a.caught o.caught) _ e))

pub kinds_itself : (t : Tables) (a : Kinds) → IsBelow t a a
kinds_itself t a = record {
  long = refl;
  registers = λ r. below_itself t (kind_at a.registers r);
  result = below_itself t a.result;
  caught = below_itself t a.caught;
  receiver = below_itself t a.receiver;
}

module _ (t : Tables) (l : IsLattice t) where
  pub kinds_on : (a b c : Kinds) → IsBelow t a b → IsBelow t b c → IsBelow t a c
  kinds_on a b c p q = record {
    long = p.long ∙ q.long;
    registers = λ r. below_on t l (kind_at a.registers r) (kind_at b.registers r) (kind_at c.registers r) (p.registers r) (q.registers r);
    result = below_on t l a.result b.result c.result p.result q.result;
    caught = below_on t l a.caught b.caught c.caught p.caught q.caught;
    receiver = below_on t l a.receiver b.receiver c.receiver p.receiver q.receiver;
  }

  pub kinds_old : (a o : Kinds) → length a.registers ≡ length o.registers → IsBelow t o (raised_kinds t a o)
  kinds_old a o e = record {
    long = sym (raised_all_long t a.registers o.registers);
    registers = λ r. subst (Below t (kind_at o.registers r)) (sym (raised_one_at t a.registers o.registers r e)) (raised_old t l (kind_at a.registers r) (kind_at o.registers r));
    result = raised_old t l a.result o.result;
    caught = raised_old t l a.caught o.caught;
    receiver = raised_old t l a.receiver o.receiver;
  }

  pub kinds_new : (a o : Kinds) → length a.registers ≡ length o.registers → IsBelow t a (raised_kinds t a o)
  kinds_new a o e = record {
    long = e ∙ sym (raised_all_long t a.registers o.registers);
    registers = λ r. subst (Below t (kind_at a.registers r)) (sym (raised_one_at t a.registers o.registers r e)) (raised_new t l (kind_at a.registers r) (kind_at o.registers r));
    result = raised_new t l a.result o.result;
    caught = raised_new t l a.caught o.caught;
    receiver = raised_new t l a.receiver o.receiver;
  }

  pub kinds_least : (a o c : Kinds) → IsBelow t a c → IsBelow t o c → IsBelow t (raised_kinds t a o) c
  kinds_least a o c p q = record {
    long = raised_all_long t a.registers o.registers ∙ q.long;
    registers = λ r. subst (λ x. Below t x (kind_at c.registers r)) (sym (raised_one_at t a.registers o.registers r (p.long ∙ sym q.long))) (raised_least t l (kind_at a.registers r) (kind_at o.registers r) (kind_at c.registers r) (p.registers r) (q.registers r));
    result = raised_least t l a.result o.result c.result p.result q.result;
    caught = raised_least t l a.caught o.caught c.caught p.caught q.caught;
    receiver = raised_least t l a.receiver o.receiver c.receiver p.receiver q.receiver;
  }
