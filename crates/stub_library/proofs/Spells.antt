-- The methods of a program by the texts of their names and protos.
use Rattle.std.proofs.Common.{◌≡◌, ℕ, zero, suc, ◌+◌, ◌<◌, ◌≤◌, ◌^◌, inl, inr, Bool, true, false, true≢false, nat_eq, List, [], ◌∷◌, ◌++◌, length, replicate, Option, Some, None, refl, sym, ap, subst, ◌∙◌, arith, add-one}
use Rattle.std.specs.Prelude.{◌⊎◌, ◌&&◌, cond, slice_get, slice_set, slice_index_or, option_and_then}
use Rattle.std.proofs.lemmas.Option.{slice_get_within}
use Rattle.program_model.specs.declared.pools.MethodName.{MethodName}
use Rattle.program_model.specs.declared.program.Program.{Program}
use Rattle.program_model.specs.MemberRules.{name_of_method}
use Rattle.class_defs.specs.Members.{names_method}
use Rattle.class_defs.proofs.Positions.{both, number_test}
use Rattle.hierarchy.specs.Membership.{key_at, method_pair}
use Rattle.hierarchy.specs.Naming.{IsNamed}
use Rattle.hierarchy.specs.declared.build.Hierarchy.{Hierarchy}
use Rattle.stub_library.specs.Listing.{same_text, last_below, AreListed}
use Rattle.stub_library.specs.Spelling.{name_in, HasNumber, HasKey, IsSpelled, SpelledTo}
use Rattle.stub_library.specs.declared.listed.Listed.{Listed}
use Rattle.stub_library.specs.declared.spelled.Spelled.{Spelled}
use Rattle.stub_library.proofs.ByText.{got_front, got_last, one_longer, before_or_at}
use Rattle.stub_library.proofs.Marked.{same_or, none_on, set_on, set_kept, set_long, replicate_long}

last_same : (f g : ℕ → List ℕ) (t : List ℕ) (n : ℕ) → ((j : ℕ) → j < n → f j ≡ g j) → last_below f t n ≡ last_below g t n
last_same f g t zero h = refl
last_same f g t (suc n) h = ap (λ u. cond (same_text u t) (Some n) (last_below f t n)) (h n (omega arith)) ∙ ap (cond (same_text (g n) t) (Some n)) (last_same f g t n (λ j l. h j (omega (arith, l))))

pub same_listed : (f g : ℕ → List ℕ) (n : ℕ) (x : Listed) → ((j : ℕ) → j < n → f j ≡ g j) → AreListed f n x → AreListed g n x
same_listed f g n x h are = record {
  last = λ t. are.last t ∙ last_same f g t n h;
  size = are.size;
  before = λ i lt. are.before i lt ∙ ap (λ o. Some o) (ap (λ t. last_below f t i) (h i lt) ∙ last_same f g (g i) i (λ j l. h j (omega (arith, l, lt))));
}

pub name_front : (p : Program) (ns : List ℕ) (n j : ℕ) → j < length ns → name_in p ns j ≡ name_in p (ns ++ n ∷ []) j
name_front p ns n j lt = ap (λ o. name_of_method p (option_and_then (slice_get p.methods) o)) (sym (got_front ns (n ∷ []) j lt))

pub name_last : (p : Program) (ns : List ℕ) (n : ℕ) → name_in p (ns ++ n ∷ []) (length ns) ≡ name_of_method p (slice_get p.methods n)
name_last p ns n = ap (λ o. name_of_method p (option_and_then (slice_get p.methods) o)) (got_last ns n)

-- nothing is seen
pub spelled_none : (p : Program) (h : Hierarchy) (seen : List Bool) (s : Spelled) → s.program.now ≡ p → s.numbers.items ≡ [] → ((texts : ℕ → List ℕ) → AreListed texts 0 s.names) → seen ≡ replicate (length p.methods) false → SpelledTo p h seen s 0
spelled_none p h seen s is none names e = record {
  program = is;
  listed = subst (λ ns. AreListed (name_in p ns) (length ns) s.names) (sym none) (names (name_in p []));
  short = (let z : length s.numbers.items ≡ 0 = ap length none in omega (arith, z));
  long = ap length e ∙ replicate_long (length p.methods);
  known = λ key on. absurd (none_on (length p.methods) key (ap (λ l. slice_index_or l key false) (sym e) ∙ on));
  all = λ i q lt. absurd (omega (arith, lt));
}

-- one more with a key that is seen
pub spelled_seen : (p : Program) (h : Hierarchy) (seen : List Bool) (s : Spelled) (done : ℕ) (q : MethodName) → slice_get p.methods done ≡ Some q → SpelledTo p h seen s done
    → slice_index_or seen (key_at h.named.method_keys.keys.items done) false ≡ true → SpelledTo p h seen s (done + 1)
spelled_seen p h seen s done q got t on = record {
  program = t.program;
  listed = t.listed;
  short = (let z = t.short in omega (arith, z));
  long = t.long;
  known = t.known;
  all = λ i r lt e. elim (before_or_at i done lt) [
    | inl l ↦ t.all i r l e
    | inr same ↦ ap (λ j. slice_index_or seen (key_at h.named.method_keys.keys.items j) false) same ∙ on
  ];
}

-- one more with a key that isn't seen
module _ (p : Program) (h : Hierarchy) (n : IsNamed p h.named) (seen after : List Bool) (s s' : Spelled) (done : ℕ) (q : MethodName) (got : slice_get p.methods done ≡ Some q) (t : SpelledTo p h seen s done)
    (marked : after ≡ slice_set seen (key_at h.named.method_keys.keys.items done) true) (same : s'.program.now ≡ p) (pushed : s'.numbers.items ≡ s.numbers.items ++ done ∷ [])
    (named : AreListed (name_in p (s.numbers.items ++ done ∷ [])) (length s.numbers.items + 1) s'.names) where
  abbrev key : ℕ
  key = key_at h.named.method_keys.keys.items done

  key_short : key < length seen
  key_short = let a = n.method_keys.below done q got in let b = n.method_keys.few in let c = t.long in omega (arith, a, b, c)

  older : (k : ℕ) → HasKey p h s.numbers.items k → HasKey p h s'.numbers.items k
  older k w = record {
    place = w.place;
    number = w.number;
    entry = w.entry;
    is = ap (λ xs. slice_get xs w.place) pushed ∙ got_front s.numbers.items (done ∷ []) w.place (slice_get_within s.numbers.items w.place w.number w.is) ∙ w.is;
    is_entry = w.is_entry;
    keyed = w.keyed;
  }

  newest : HasKey p h s'.numbers.items key
  newest = record {
    place = length s.numbers.items;
    number = done;
    entry = q;
    is = ap (λ xs. slice_get xs (length s.numbers.items)) pushed ∙ got_last s.numbers.items done;
    is_entry = got;
    keyed = refl;
  }

  on_now : (k : ℕ) → slice_index_or seen k false ≡ true → slice_index_or after k false ≡ true
  on_now k on = ap (λ l. slice_index_or l k false) marked ∙ elim (same_or key k) [
    | inl e ↦ ap (λ j. slice_index_or (slice_set seen j true) k false) e ∙ set_on seen k (let z = key_short in let y = e in omega (arith, z, y))
    | inr f ↦ set_kept true seen key k f ∙ on
  ]

  pub spelled_more : SpelledTo p h after s' (done + 1)
  spelled_more = record {
    program = same;
    listed = subst (λ ns. AreListed (name_in p ns) (length ns) s'.names) (sym pushed) (subst (λ m. AreListed (name_in p (s.numbers.items ++ done ∷ [])) m s'.names) (sym (one_longer s.numbers.items done)) named);
    short = (let z = t.short in let y = ap length pushed ∙ one_longer s.numbers.items done in omega (arith, z, y));
    long = ap length marked ∙ set_long true seen key ∙ t.long;
    known = λ k on. elim (same_or key k) [
      | inl e ↦ subst (λ j. HasKey p h s'.numbers.items j) e newest
      | inr f ↦ older k (t.known k (sym (set_kept true seen key k f) ∙ ap (λ l. slice_index_or l k false) (sym marked) ∙ on))
    ];
    all = λ i r lt e. elim (before_or_at i done lt) [
      | inl l ↦ on_now (key_at h.named.method_keys.keys.items i) (t.all i r l e)
      | inr z ↦ ap (λ j. slice_index_or after (key_at h.named.method_keys.keys.items j) false) z ∙ ap (λ l. slice_index_or l key false) marked ∙ set_on seen key key_short
    ];
  }

-- the names of all of them are listed, with one more
pub named_more : (p : Program) (ns : List ℕ) (done : ℕ) (old new : Listed) → AreListed (name_in p ns) (length ns) old
    → ((texts : ℕ → List ℕ) (n : ℕ) → AreListed texts n old → texts n ≡ name_of_method p (slice_get p.methods done) → AreListed texts (n + 1) new) → AreListed (name_in p (ns ++ done ∷ [])) (length ns + 1) new
named_more p ns done old new are give = give (name_in p (ns ++ done ∷ [])) (length ns) (same_listed (name_in p ns) (name_in p (ns ++ done ∷ [])) (length ns) old (λ j lt. name_front p ns done j lt) are) (name_last p ns done)

-- all are seen
pub spelled_all : (p : Program) (h : Hierarchy) (n : IsNamed p h.named) (seen : List Bool) (s : Spelled) (done : ℕ) → length p.methods ≤ done → SpelledTo p h seen s done → IsSpelled p s
spelled_all p h n seen s done le t = record {
  program = t.program;
  listed = t.listed;
  all = λ i q e.
      let w = t.known (key_at h.named.method_keys.keys.items i) (t.all i q (let l = slice_get_within p.methods i q e in omega (arith, l, le)) e) in
      let pairs : method_pair w.entry ≡ method_pair q = n.method_keys.one w.number i w.entry q w.is_entry e w.keyed in
      record {
        place = w.place;
        number = w.number;
        is = w.is;
        named = ap (names_method q.name q.proto) w.is_entry
            ∙ both (nat_eq w.entry.name q.name) (nat_eq w.entry.proto q.proto) (number_test w.entry.name q.name (ap (λ (r : ℕ × ℕ). r.0) pairs)) (number_test w.entry.proto q.proto (ap (λ (r : ℕ × ℕ). r.1) pairs));
      };
}
