-- Names that hold too much, counts that rise, and names that stay.
use Rattle.std.proofs.Common.{◌≡◌, ◌+◌, ◌≤◌, ℕ, List, [], ◌∷◌, ◌++◌, length, Bool, IsTrue, Option, None, Some, sym, ap, subst, ◌∙◌, inl, inr, arith}
use Rattle.program_model.specs.Limits.{limit_of}
use Rattle.program_model.specs.declared.limits.Counted.{Counted}
use Rattle.program_model.specs.declared.limits.LimitFault.{LimitFault}
use Rattle.redex_outside.specs.Counts.{NoneFell, Rose}
use Rattle.redex_outside.specs.Held.{Held, AllSame}
use Rattle.redex_cli.specs.Commands.{Fetch, counted_as, input_files, library_file, rules_and_file, script_alone, trace_files}
use Rattle.redex_cli.specs.Fetching.{Failures, HoldsWithin, HoldsTooMuch, AllWithin, FetchFailed, FetchRefused, FirstFailed, FirstTooLong, OneCounts, OneRose, OnlyFetched, PassesByOne}
use Rattle.redex_cli.specs.Files.{AreHeld, HoldsNamed}
use Rattle.redex_cli.specs.Stays.{OutputHolds, Stays}
use Rattle.redex_cli.specs.declared.fetching.Inputs.{Inputs}
use Rattle.redex_cli.specs.declared.status.Status.{Status}
use Rattle.redex_cli.specs.declared.status.Status.TheVariants.{Done, Limit, ReadFault, WriteFault, NoMemory}

some_equal : (x y : List ℕ) → Some x ≡ Some y → x ≡ y
some_equal x y e = cc

-- no name keeps its limit and passes it
pub too_much_within : (held : Held) (fetch : Fetch) → HoldsTooMuch held fetch → HoldsWithin held fetch → ⊥
too_much_within held fetch much within =
    let same : within.bytes ≡ much.bytes = some_equal within.bytes much.bytes (sym within.there ∙ much.there) in
    let short : length much.bytes ≤ limit_of (counted_as fetch.kind) = subst (λ (bs : List ℕ). length bs ≤ limit_of (counted_as fetch.kind)) same within.within in
    omega (arith, short, much.passed)

pub within_or_long : (held : Held) (names : List Fetch) (counted : Counted) → AllWithin held names → FirstTooLong held names counted → ⊥
within_or_long held [] counted all long = long
within_or_long held (f ∷ fs) counted all (inl long) = too_much_within held f long.0 all.0
within_or_long held (f ∷ fs) counted all (inr later) = within_or_long held fs counted all.1 later.1

-- one name is the first that holds too much
pub one_long : (held : Held) (names : List Fetch) (a b : Counted) → FirstTooLong held names a → FirstTooLong held names b → a ≡ b
one_long held [] a b x y = absurd x
one_long held (f ∷ fs) a b (inl x) (inl y) = sym x.1 ∙ y.1
one_long held (f ∷ fs) a b (inl x) (inr y) = absurd (too_much_within held f x.0 y.0)
one_long held (f ∷ fs) a b (inr x) (inl y) = absurd (too_much_within held f y.0 x.0)
one_long held (f ∷ fs) a b (inr x) (inr y) = one_long held fs a b x.1 y.1

pub passes_ends : (tells : Bool) (held : Held) (names : List Fetch) (fault : LimitFault) (counted : Counted)
    → PassesByOne tells held names fault → IsTrue tells → FirstTooLong held names counted
    → (fault.counted ≡ counted) × (fault.number ≡ limit_of counted + 1)
passes_ends tells held names fault counted passes told long =
    let e : fault.counted ≡ counted = one_long held names fault.counted counted (passes.first told) long in
    (e, subst (λ (c : Counted). fault.number ≡ limit_of c + 1) e passes.number)

-- a count that rose later rose
pub rose_since : (a b c : ℕ) → a ≤ b → Rose b c → Rose a c
rose_since a b c below rose = omega arith

-- ---- names that are fetched behind others

fell_since : (a b c : Failures) → NoneFell a b → NoneFell b c → NoneFell a c
fell_since a b c ab bc name =
    record { no_less = fell (a name) (b name) (c name) (ab name).no_less (bc name).no_less; in_range = (bc name).in_range }
  where
    fell : (x y z : ℕ) → x ≤ y → y ≤ z → x ≤ z
    fell x y z xy yz = omega arith

pub only_fetched : (tells tells' tells'' : Bool) (old mid new : Held) (f m g p n q : Failures)
    → OnlyFetched tells tells' old mid f m p n → OnlyFetched tells' tells'' mid new m g n q → OnlyFetched tells tells'' old new f g p q
only_fetched tells tells' tells'' old mid new f m g p n q a b = record {
  tells = b.tells ∙ a.tells;
  held = λ told name. b.held (a.tells ∙ told) name ∙ a.held told name;
  fetches = fell_since f m g a.fetches b.fetches;
  puts = fell_since p n q a.puts b.puts;
}

named_none : (tells : Bool) (held : Held) (name bytes : Option (List ℕ)) → name ≡ None → bytes ≡ None → HoldsNamed tells held name bytes
named_none tells held None None e f = tt
named_none tells held (Some name) bytes e f = cc
named_none tells held None (Some bytes) e f = cc

named_some : (tells : Bool) (held : Held) (name bytes : Option (List ℕ)) (n b : List ℕ) → name ≡ Some n → bytes ≡ Some b → (IsTrue tells → held n ≡ Some b)
    → HoldsNamed tells held name bytes
named_some tells held (Some name) (Some bytes) n b e f there = λ told. ap held (same name n e) ∙ there told ∙ sym f
  where
    same : (name n : List ℕ) → Some name ≡ Some n → name ≡ n
    same name n e = cc
named_some tells held None bytes n b e f there = cc
named_some tells held (Some name) None n b e f there = cc

-- what is fetched without a library
pub held_alone : (tells : Bool) (old : Held) (rules input : List ℕ) (library : Option (List ℕ)) (inputs : Inputs) → library ≡ None → inputs.library ≡ None
    → (IsTrue tells → old rules ≡ Some inputs.rules) → (IsTrue tells → old input ≡ Some inputs.file) → AreHeld tells old rules input library inputs
held_alone tells old rules input library inputs is alone ruled filed =
    record { ruled = ruled; filed = filed; named = named_none tells old library inputs.library is alone }

-- and with one
pub held_behind : (tells tells' : Bool) (old mid : Held) (rules input name bytes : List ℕ) (library : Option (List ℕ)) (inputs : Inputs) → library ≡ Some name
    → inputs.library ≡ Some bytes → tells' ≡ tells → (IsTrue tells → AllSame old mid) → (IsTrue tells → old rules ≡ Some inputs.rules)
    → (IsTrue tells → old input ≡ Some inputs.file) → (IsTrue tells' → mid name ≡ Some bytes) → AreHeld tells old rules input library inputs
held_behind tells tells' old mid rules input name bytes library inputs is there e same ruled filed held = record {
  ruled = ruled;
  filed = filed;
  named = named_some tells old library inputs.library name bytes is there (λ told. sym (same told name) ∙ held (e ∙ told));
}

within_since : (old mid : Held) (names : List Fetch) → AllSame old mid → AllWithin mid names → AllWithin old names
within_since old mid [] same w = tt
within_since old mid (n ∷ ns) same w = (one_within old mid n same w.0, within_since old mid ns same w.1)
  where
    one_within : (old mid : Held) (n : Fetch) → AllSame old mid → HoldsWithin mid n → HoldsWithin old n
    one_within old mid n same w = record { bytes = w.bytes; there = sym (same n.name) ∙ w.there; within = w.within }

within_behind : (held : Held) (names more : List Fetch) → AllWithin held names → AllWithin held more → AllWithin held (names ++ more)
within_behind held [] more w v = v
within_behind held (n ∷ ns) more w v = (w.0, within_behind held ns more w.1 v)

pub within_both : (tells tells' : Bool) (old mid : Held) (names more : List Fetch) → tells' ≡ tells → (IsTrue tells → AllSame old mid)
    → (IsTrue tells → AllWithin old names) → (IsTrue tells' → AllWithin mid more) → IsTrue tells → AllWithin old (names ++ more)
within_both tells tells' old mid names more e same w v told =
    within_behind old names more (w told) (within_since old mid more (same told) (v (e ∙ told)))

rose_before : (f g : Failures) (names more : List Fetch) → OneRose f g names → OneRose f g (names ++ more)
rose_before f g [] more r = absurd r
rose_before f g (n ∷ ns) more (inl r) = inl r
rose_before f g (n ∷ ns) more (inr r) = inr (rose_before f g ns more r)

rose_later : (f m g : Failures) (names : List Fetch) → NoneFell f m → OneRose m g names → OneRose f g names
rose_later f m g [] fell r = absurd r
rose_later f m g (n ∷ ns) fell (inl r) = inl (rose_since (f n.name) (m n.name) (g n.name) (fell n.name).no_less r)
rose_later f m g (n ∷ ns) fell (inr r) = inr (rose_later f m g ns fell r)

rose_behind : (f g : Failures) (names more : List Fetch) → OneRose f g more → OneRose f g (names ++ more)
rose_behind f g [] more r = r
rose_behind f g (n ∷ ns) more r = inr (rose_behind f g ns more r)

counts_before : (names more : List Fetch) (counted : Counted) → OneCounts names counted → OneCounts (names ++ more) counted
counts_before [] more counted c = absurd c
counts_before (n ∷ ns) more counted (inl c) = inl c
counts_before (n ∷ ns) more counted (inr c) = inr (counts_before ns more counted c)

counts_behind : (names more : List Fetch) (counted : Counted) → OneCounts more counted → OneCounts (names ++ more) counted
counts_behind [] more counted c = c
counts_behind (n ∷ ns) more counted c = inr (counts_behind ns more counted c)

long_before : (held : Held) (names more : List Fetch) (counted : Counted) → FirstTooLong held names counted → FirstTooLong held (names ++ more) counted
long_before held [] more counted c = absurd c
long_before held (n ∷ ns) more counted (inl c) = inl c
long_before held (n ∷ ns) more counted (inr c) = inr (c.0, long_before held ns more counted c.1)

long_behind : (held : Held) (names more : List Fetch) (counted : Counted) → AllWithin held names → FirstTooLong held more counted
    → FirstTooLong held (names ++ more) counted
long_behind held [] more counted w c = c
long_behind held (n ∷ ns) more counted w c = inr (w.0, long_behind held ns more counted w.1 c)

long_since : (old mid : Held) (names : List Fetch) (counted : Counted) → AllSame old mid → FirstTooLong mid names counted → FirstTooLong old names counted
long_since old mid [] counted same c = absurd c
long_since old mid (n ∷ ns) counted same (inl c) = inl (record { bytes = c.0.bytes; there = sym (same n.name) ∙ c.0.there; passed = c.0.passed }, c.1)
long_since old mid (n ∷ ns) counted same (inr c) =
    inr (record { bytes = c.0.bytes; there = sym (same n.name) ∙ c.0.there; within = c.0.within }, long_since old mid ns counted same c.1)

failed_before : (held : Held) (f g : Failures) (names more : List Fetch) → FirstFailed held f g names → FirstFailed held f g (names ++ more)
failed_before held f g [] more r = absurd r
failed_before held f g (n ∷ ns) more (inl r) = inl r
failed_before held f g (n ∷ ns) more (inr r) = inr (r.0, failed_before held f g ns more r.1)

failed_behind : (held : Held) (f g : Failures) (names more : List Fetch) → AllWithin held names → FirstFailed held f g more → FirstFailed held f g (names ++ more)
failed_behind held f g [] more w r = r
failed_behind held f g (n ∷ ns) more w r = inr (w.0, failed_behind held f g ns more w.1 r)

failed_since : (old mid : Held) (f m g : Failures) (names : List Fetch) → AllSame old mid → NoneFell f m → FirstFailed mid m g names → FirstFailed old f g names
failed_since old mid f m g [] same fell r = absurd r
failed_since old mid f m g (n ∷ ns) same fell (inl r) = inl (rose_since (f n.name) (m n.name) (g n.name) (fell n.name).no_less r)
failed_since old mid f m g (n ∷ ns) same fell (inr r) =
    inr (record { bytes = r.0.bytes; there = sym (same n.name) ∙ r.0.there; within = r.0.within }, failed_since old mid f m g ns same fell r.1)

-- a fetch alone that failed
pub failed_alone : (tells : Bool) (held : Held) (f g : Failures) (fetch : Fetch) → Rose (f fetch.name) (g fetch.name) → FetchFailed tells held f g (fetch ∷ [])
failed_alone tells held f g fetch r = record { rose = inl r; first = λ _. inl r }

-- what refuses the first names refuses all
pub refused_before : (tells : Bool) (held : Held) (f g : Failures) (names more : List Fetch) (status : Status)
    → FetchRefused tells held f g names status → FetchRefused tells held f g (names ++ more) status
refused_before tells held f g names more ReadFault r = record {
  rose = rose_before f g names more r.rose;
  first = λ told. failed_before held f g names more (r.first told);
}
refused_before tells held f g names more (Limit fault) r = record {
  number = r.number;
  counts = counts_before names more fault.counted r.counts;
  first = λ told. long_before held names more fault.counted (r.first told);
}
refused_before tells held f g names more NoMemory r = tt
refused_before tells held f g names more _ r = absurd r

-- what refuses the names behind refuses all, where the first ones were fetched
pub refused_behind : (tells tells' : Bool) (old mid : Held) (f m g : Failures) (names more : List Fetch) (status : Status)
    → tells' ≡ tells → (IsTrue tells → AllSame old mid) → NoneFell f m → (IsTrue tells → AllWithin old names)
    → FetchRefused tells' mid m g more status → FetchRefused tells old f g (names ++ more) status
refused_behind tells tells' old mid f m g names more ReadFault e same fell w r = record {
  rose = rose_behind f g names more (rose_later f m g more fell r.rose);
  first = λ told. failed_behind old f g names more (w told) (failed_since old mid f m g more (same told) fell (r.first (e ∙ told)));
}
refused_behind tells tells' old mid f m g names more (Limit fault) e same fell w r = record {
  number = r.number;
  counts = counts_behind names more fault.counted r.counts;
  first = λ told. long_behind old names more fault.counted (w told) (long_since old mid more fault.counted (same told) (r.first (e ∙ told)));
}
refused_behind tells tells' old mid f m g names more NoMemory e same fell w r = tt
refused_behind tells tells' old mid f m g names more _ e same fell w r = absurd r

-- ---- the same of the inputs and the script

pub inputs_within_alone : (tells : Bool) (old : Held) (rules input : List ℕ) (library : Option (List ℕ)) → library ≡ None
    → (IsTrue tells → AllWithin old (rules_and_file rules input)) → IsTrue tells → AllWithin old (input_files rules input library)
inputs_within_alone tells old rules input library is w told =
    subst (λ (l : Option (List ℕ)). AllWithin old (input_files rules input l)) (sym is) (w told)

pub inputs_within : (tells tells' : Bool) (old mid : Held) (rules input name : List ℕ) (library : Option (List ℕ)) → library ≡ Some name → tells' ≡ tells
    → (IsTrue tells → AllSame old mid) → (IsTrue tells → AllWithin old (rules_and_file rules input)) → (IsTrue tells' → AllWithin mid (library_file (Some name)))
    → IsTrue tells → AllWithin old (input_files rules input library)
inputs_within tells tells' old mid rules input name library is e same w v told =
    subst (λ (l : Option (List ℕ)). AllWithin old (input_files rules input l)) (sym is)
    (within_both tells tells' old mid (rules_and_file rules input) (library_file (Some name)) e same w v told)

pub inputs_refused_before : (tells : Bool) (held : Held) (f g : Failures) (rules input : List ℕ) (library : Option (List ℕ)) (status : Status)
    → FetchRefused tells held f g (rules_and_file rules input) status → FetchRefused tells held f g (input_files rules input library) status
inputs_refused_before tells held f g rules input library status r = refused_before tells held f g (rules_and_file rules input) (library_file library) status r

pub inputs_refused : (tells tells' : Bool) (old mid : Held) (f m g : Failures) (rules input name : List ℕ) (library : Option (List ℕ)) (status : Status) → library ≡ Some name
    → tells' ≡ tells → (IsTrue tells → AllSame old mid) → NoneFell f m → (IsTrue tells → AllWithin old (rules_and_file rules input))
    → FetchRefused tells' mid m g (library_file (Some name)) status → FetchRefused tells old f g (input_files rules input library) status
inputs_refused tells tells' old mid f m g rules input name library status is e same fell w r =
    subst (λ (l : Option (List ℕ)). FetchRefused tells old f g (input_files rules input l) status) (sym is)
    (refused_behind tells tells' old mid f m g (rules_and_file rules input) (library_file (Some name)) status e same fell w r)

pub trace_within : (tells tells' : Bool) (old mid : Held) (rules input : List ℕ) (library : Option (List ℕ)) (script : List ℕ) → tells' ≡ tells
    → (IsTrue tells → AllSame old mid) → (IsTrue tells → AllWithin old (input_files rules input library)) → (IsTrue tells' → AllWithin mid (script_alone script))
    → IsTrue tells → AllWithin old (trace_files rules input library script)
trace_within tells tells' old mid rules input library script e same w v told =
    within_both tells tells' old mid (input_files rules input library) (script_alone script) e same w v told

pub trace_refused_before : (tells : Bool) (held : Held) (f g : Failures) (rules input : List ℕ) (library : Option (List ℕ)) (script : List ℕ) (status : Status)
    → FetchRefused tells held f g (input_files rules input library) status → FetchRefused tells held f g (trace_files rules input library script) status
trace_refused_before tells held f g rules input library script status r = refused_before tells held f g (input_files rules input library) (script_alone script) status r

pub trace_refused : (tells tells' : Bool) (old mid : Held) (f m g : Failures) (rules input : List ℕ) (library : Option (List ℕ)) (script : List ℕ) (status : Status)
    → tells' ≡ tells → (IsTrue tells → AllSame old mid) → NoneFell f m → (IsTrue tells → AllWithin old (input_files rules input library))
    → FetchRefused tells' mid m g (script_alone script) status → FetchRefused tells old f g (trace_files rules input library script) status
trace_refused tells tells' old mid f m g rules input library script status e same fell w r =
    refused_behind tells tells' old mid f m g (input_files rules input library) (script_alone script) status e same fell w r

-- ---- names that stay

-- a status that leaves every name as it was
abbrev pub KeepsAll : Status → Type 0
KeepsAll Done = ⊥
KeepsAll WriteFault = ⊥
KeepsAll _ = Unit {0}

holds_same : (IsFinal : List ℕ → List ℕ → Type 0) (status : Status) (f g : ℕ) (old new : Option (List ℕ)) → KeepsAll status → new ≡ old → OutputHolds IsFinal status f g old new
holds_same IsFinal Done f g old new keeps e = absurd keeps
holds_same IsFinal WriteFault f g old new keeps e = absurd keeps
holds_same IsFinal NoMemory f g old new keeps e = inl e
holds_same IsFinal _ f g old new keeps e = e

pub stays_same : (IsOutput : List ℕ → Type 0) (IsFinal : List ℕ → List ℕ → Type 0) (status : Status) (p q : Failures) (old new : Held) → KeepsAll status → AllSame old new
    → Stays IsOutput IsFinal status p q old new
stays_same IsOutput IsFinal status p q old new keeps same = record {
  refused = λ _. same;
  others = λ name _. same name;
  output = λ name _. holds_same IsFinal status (p name) (q name) (old name) (new name) keeps (same name);
}
