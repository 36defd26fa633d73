-- Methods that are marked, class by class and method by method.
use Rattle.std.proofs.Common.{◌≡◌, ◌⊎◌, inl, inr, ℕ, ◌+◌, ◌<◌, ◌≤◌, Bool, true, false, List, nat_eq, length, replicate, Some, refl, sym, ap, ◌∙◌, subst, arith, true≢false}
use Rattle.std.specs.Prelude.{◌&&◌, ◌||◌, not, slice_get, slice_set, cond}
use Rattle.std.specs.List.{list_any}
use Rattle.std.proofs.lemmas.Bool.{cases_lt}
use Rattle.lemmas.proofs.Bools.{and_left}
use Rattle.lemmas.proofs.Lists.{got_short}
use Rattle.lemmas.proofs.Options.{some_same}
use Rattle.program_model.specs.MemberRules.{is_direct}
use Rattle.program_model.specs.declared.pass.Outside.{Outside}
use Rattle.program_model.specs.declared.pools.MethodName.{MethodName}
use Rattle.program_model.specs.declared.program.Class.{Class}
use Rattle.program_model.specs.declared.program.Method.{Method}
use Rattle.program_model.specs.declared.program.Program.{Program}
use Rattle.loose_methods.specs.Loose.{is_alone}
use Rattle.loose_methods.specs.Candidates.{is_plain_class, takes_receiver, is_kept, is_candidate}
use Rattle.loose_methods.specs.Marking.{is_on, tested, turned_on, IsTable, IsCandidate}
use Rattle.loose_methods.specs.Asked.{MarksClass, CandidatesTo, AreCandidates}
use Rattle.loose_methods.proofs.Marks.{set_long, set_on, set_stays, set_from, none_on, replicate_long, turned_at, turned_long}

module _ (p : Program) (o : Outside) (place : ℕ) (k : Class) (kept : List Bool) (plain : is_plain_class p place k ≡ true) (table : IsTable (length p.methods) (is_kept o) kept) where
  kept_same : (m : Method) (q : MethodName) → slice_get p.methods m.name ≡ Some q → is_on kept m.name ≡ is_kept o m.name
  kept_same m q e = table.are m.name (got_short p.methods m.name q e)

  pub candidate_is : (m : Method) (q : MethodName) → slice_get p.methods m.name ≡ Some q → tested p kept place q m ≡ is_candidate p o place k q m
  candidate_is m q e =
      ap (λ b. takes_receiver p q m && not b && (is_direct p m || is_alone p q place)) (kept_same m q e)
      ∙ ap (λ b. b && not (is_kept o m.name) && (is_direct p m || is_alone p q place)) (sym (ap (λ b. b && takes_receiver p q m) plain))

-- so many methods of a class were looked at
pub record MarkedTo (p : Program) (o : Outside) (place : ℕ) (k : Class) (done : ℕ) (old now : List Bool) : Type 0 where
  pub long : length now ≡ length old
  pub keeps : (n : ℕ) → is_on old n ≡ true → is_on now n ≡ true
  pub only : (n : ℕ) → is_on now n ≡ true → (is_on old n ≡ true) ⊎ IsCandidate p o n
  pub all : (i : ℕ) (m : Method) (q : MethodName) → i < done → slice_get k.methods i ≡ Some m → slice_get p.methods m.name ≡ Some q → is_candidate p o place k q m ≡ true → is_on now m.name ≡ true

pub none_marked : (p : Program) (o : Outside) (place : ℕ) (k : Class) (old : List Bool) → MarkedTo p o place k 0 old old
none_marked p o place k old = record { long = refl; keeps = λ n e. e; only = λ n e. inl e; all = λ i m q lt. absurd (omega (arith, lt)) }

module _ (p : Program) (o : Outside) (place : ℕ) (k : Class) (done : ℕ) (old now : List Bool) (m : Method) (q : MethodName)
    (is_class : slice_get p.classes place ≡ Some k) (is_method : slice_get k.methods done ≡ Some m) (entry : slice_get p.methods m.name ≡ Some q) (was : MarkedTo p o place k done old now) where
  at_or_before : (i : ℕ) → i < done + 1 → (i < done) ⊎ (i ≡ done)
  at_or_before i lt = elim (cases_lt i done) [ inl l ↦ inl l | inr g ↦ inr (omega (arith, lt, g)) ]

  same_method : (i : ℕ) (x : Method) → i ≡ done → slice_get k.methods i ≡ Some x → m ≡ x
  same_method i x s e = some_same m x (sym is_method ∙ ap (slice_get k.methods) (sym s) ∙ e)

  -- a candidate is marked
  pub marked_more : is_candidate p o place k q m ≡ true → length old ≡ length p.methods → (new : List Bool) → new ≡ slice_set now m.name true → MarkedTo p o place k (done + 1) old new
  marked_more holds size new e =
      let short : m.name < length now = (let l = got_short p.methods m.name q entry in let w = was.long in omega (arith, l, size, w)) in
      subst (λ x. MarkedTo p o place k (done + 1) old x) (sym e) (record {
        long = set_long true now m.name ∙ was.long;
        keeps = λ n f. set_stays now m.name n short (was.keeps n f);
        only = λ n f. elim (set_from now m.name n f) [
          | inl g ↦ was.only n g
          | inr s ↦ inr (record { place = place; class = k; at = done; method = m; name = q; is_class = is_class; is_method = is_method; is_number = s; is_name = ap (slice_get p.methods) (sym s) ∙ entry; holds = holds })
        ];
        all = λ i x r lt f g h. elim (at_or_before i lt) [
          | inl l ↦ set_stays now m.name x.name short (was.all i x r l f g h)
          | inr s ↦ ap (λ y. is_on (slice_set now m.name true) y) (ap (λ (z : Method). z.name) (sym (same_method i x s f))) ∙ set_on now m.name short
        ];
      })

  -- another method isn't
  pub unmarked_more : is_candidate p o place k q m ≡ false → (new : List Bool) → new ≡ now → MarkedTo p o place k (done + 1) old new
  unmarked_more fails new e = subst (λ x. MarkedTo p o place k (done + 1) old x) (sym e) (record {
    long = was.long;
    keeps = was.keeps;
    only = was.only;
    all = λ i x r lt f g h. elim (at_or_before i lt) [
      | inl l ↦ was.all i x r l f g h
      | inr s ↦ (
          let same : m ≡ x = same_method i x s f in
          let names : q ≡ r = some_same q r (sym entry ∙ ap (λ (z : Method). slice_get p.methods z.name) same ∙ g) in
          absurd (true≢false (sym h ∙ ap (λ z. is_candidate p o place k z x) (sym names) ∙ ap (is_candidate p o place k q) (sym same) ∙ fails))
          )
    ];
  })

-- one method more, by what is tested
pub marked_one : (p : Program) (o : Outside) (place : ℕ) (k : Class) (kept : List Bool) (done : ℕ) (old now new : List Bool) (m : Method) (q : MethodName) → is_plain_class p place k ≡ true → IsTable (length p.methods) (is_kept o) kept
    → slice_get p.classes place ≡ Some k → slice_get k.methods done ≡ Some m → slice_get p.methods m.name ≡ Some q → length old ≡ length p.methods → MarkedTo p o place k done old now
    → new ≡ cond (tested p kept place q m) (slice_set now m.name true) now → MarkedTo p o place k (done + 1) old new
marked_one p o place k kept done old now new m q plain table is_class is_method entry size was e = by (is_candidate p o place k q m) refl (e ∙ ap (λ b. cond b (slice_set now m.name true) now) (candidate_is p o place k kept plain table m q entry))
  where
    by : (b : Bool) → is_candidate p o place k q m ≡ b → new ≡ cond (is_candidate p o place k q m) (slice_set now m.name true) now → MarkedTo p o place k (done + 1) old new
    by true f g = marked_more p o place k done old now m q is_class is_method entry was f size new (g ∙ ap (λ b. cond b (slice_set now m.name true) now) f)
    by false f g = unmarked_more p o place k done old now m q is_class is_method entry was f new (g ∙ ap (λ b. cond b (slice_set now m.name true) now) f)

pub marked_all : (p : Program) (o : Outside) (place : ℕ) (k : Class) (done : ℕ) (old now : List Bool) → length k.methods ≤ done → slice_get p.classes place ≡ Some k → MarkedTo p o place k done old now → MarksClass p o place old now
marked_all p o place k done old now le is_class a = record {
  long = a.long;
  keeps = a.keeps;
  only = a.only;
  all = λ c i m q f g h e.
      let same : k ≡ c = some_same k c (sym is_class ∙ f) in
      let there : slice_get k.methods i ≡ Some m = ap (λ (z : Class). slice_get z.methods i) same ∙ g in
      let l = got_short k.methods i m there in
      a.all i m q (omega (arith, l, le)) there h (ap (λ z. is_candidate p o place z q m) same ∙ e);
}

-- ---- classes without candidates

pub no_candidates : (p : Program) (o : Outside) (place : ℕ) (k : Class) (old new : List Bool) → slice_get p.classes place ≡ Some k → is_plain_class p place k ≡ false → new ≡ old → MarksClass p o place old new
no_candidates p o place k old new is_class fails e = subst (λ x. MarksClass p o place old x) (sym e) (record {
  long = refl;
  keeps = λ n f. f;
  only = λ n f. inl f;
  all = λ c i m q f g h x. absurd (true≢false (sym (plain c q m x) ∙ ap (is_plain_class p place) (sym (some_same k c (sym is_class ∙ f))) ∙ fails));
})
  where
    plain : (c : Class) (q : MethodName) (m : Method) → is_candidate p o place c q m ≡ true → is_plain_class p place c ≡ true
    plain c q m x = and_left (is_plain_class p place c) (takes_receiver p q m) (and_left (is_plain_class p place c && takes_receiver p q m) (not (is_kept o m.name)) (and_left (is_plain_class p place c && takes_receiver p q m && not (is_kept o m.name)) (is_direct p m || is_alone p q place) x))

-- ---- kept methods

pub kept_table : (size : ℕ) (o : Outside) (marks : List Bool) → marks ≡ turned_on (replicate size false) o.methods → IsTable size (is_kept o) marks
kept_table size o marks e = record {
  long = ap length e ∙ (turned_long (replicate size false) o.methods ∙ replicate_long size);
  are = λ n lt. ap (λ l. is_on l n) e ∙ (turned_at (replicate size false) o.methods n (let l = replicate_long size in omega (arith, l, lt)) ∙ ap (λ b. b || list_any (nat_eq n) o.methods) (none_on size n));
}

-- ---- all classes

pub candidates_none : (p : Program) (o : Outside) (marks : List Bool) → marks ≡ replicate (length p.methods) false → CandidatesTo p o 0 marks
candidates_none p o marks e = record {
  long = ap length e ∙ replicate_long (length p.methods);
  only = λ n f. absurd (true≢false (sym f ∙ ap (λ l. is_on l n) e ∙ none_on (length p.methods) n));
  all = λ place i k m q lt. absurd (omega (arith, lt));
}

pub candidates_more : (p : Program) (o : Outside) (done : ℕ) (old new : List Bool) → CandidatesTo p o done old → MarksClass p o done old new → CandidatesTo p o (done + 1) new
candidates_more p o done old new a m = record {
  long = m.long ∙ a.long;
  only = λ n e. elim (m.only n e) [ inl f ↦ a.only n f | inr c ↦ c ];
  all = λ place i k x q lt f g h e. elim (cases_lt place done) [
    | inl l ↦ m.keeps x.name (a.all place i k x q l f g h e)
    | inr g2 ↦ (let same : place ≡ done = omega (arith, lt, g2) in m.all k i x q (ap (slice_get p.classes) (sym same) ∙ f) g h (ap (λ z. is_candidate p o z k q x) (sym same) ∙ e))
  ];
}

pub candidates_end : (p : Program) (o : Outside) (n : ℕ) (marks : List Bool) → length p.classes ≤ n → CandidatesTo p o n marks → CandidatesTo p o (length p.classes) marks
candidates_end p o n marks le a = record { long = a.long; only = a.only; all = λ place i k m q lt f g h e. a.all place i k m q (omega (arith, lt, le)) f g h e }

pub candidates_all : (p : Program) (o : Outside) (marks : List Bool) → CandidatesTo p o (length p.classes) marks → AreCandidates p o marks
candidates_all p o marks a = record { long = a.long; only = a.only; all = λ place i k m q f g h e. a.all place i k m q (got_short p.classes place k f) f g h e }
