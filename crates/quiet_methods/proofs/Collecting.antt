-- What is known of the code of each method number, and which methods are quiet by it.
use Rattle.std.proofs.Common.{◌≡◌, inl, inr, ℕ, zero, suc, ◌+◌, ◌<◌, ◌≤◌, ◌&&◌, Bool, true, false, List, [], ◌∷◌, ◌++◌, length, get_or, set, take, replicate, map, Option, Some, None, is_some, refl, sym, ap, ◌∙◌, subst, arith, rules, length-set, get_or-set_other, get_or-set_same}
use Rattle.std.specs.Prelude.{slice_get, Contains}
use Rattle.std.specs.List.{list_all}
use Rattle.std.proofs.lemmas.Bool.{false≢true, cases_eq}
use Rattle.std.proofs.lemmas.List.{length-replicate, length-map, take_more, take_all, append_assoc, append-nil}
use Rattle.std.proofs.lemmas.Grind.{flat_map-append}
use Rattle.std.proofs.lemmas.List.Elements.{Contains-append_left, Contains-append_right, Contains-append_cases, Contains-push, Contains-push_cases, Contains-get_or}
use Rattle.std.proofs.lemmas.Option.{slice_get-get_or, get_or_from_slice_get, slice_get_within}
use Rattle.insn_set.specs.declared.form.Insn.{Insn}
use Rattle.program_model.specs.declared.body.Body.{Body}
use Rattle.program_model.specs.declared.program.Class.{Class}
use Rattle.program_model.specs.declared.program.Method.{Method}
use Rattle.program_model.specs.declared.program.Program.{Program}
use Rattle.dom_frame.specs.declared.frames.Frame.{Frame}
use Rattle.quiet_methods.specs.declared.ranks.Node.{Node}
use Rattle.quiet_methods.specs.declared.forms.Demand.{Demand}
use Rattle.quiet_methods.specs.declared.forms.Demand.TheVariants.{Nothing, Call, Loud}
use Rattle.quiet_methods.specs.Settled.{rank_at, has_rank, IsRank, IsSettled}
use Rattle.quiet_methods.specs.Bodies.{frame_in, demand_in, IsMetBy, IsCalmAt, IsOwn}
use Rattle.quiet_methods.specs.Quiet.{is_on, frames_of, ranks_of, IsCode, IsMet, IsQuietAt, IsQuietBody, IsLoudBody, LoudSelf, CallsLoud, AreQuiet}
use Rattle.quiet_methods.specs.Owning.{methods_of, no_node, node_in, IsEntry, AreOwns}
use Rattle.quiet_methods.proofs.Judging.{fails_at}

abbrev Frames : Type 0
Frames = List (List (Option Frame))

abbrev Ranks : Type 0
Ranks = List (List (Option ℕ))

-- ---- one method more

widened : (p : Program) (frames : Frames) (done more : List Method) (nodes : List Node) (ranks : Ranks) (k : ℕ) → IsEntry p frames done nodes ranks k → IsEntry p frames (done ++ more) nodes ranks k
widened p frames done more nodes ranks k e = record { method = e.method; body = e.body; in_done = Contains-append_left done more e.method e.in_done; coded = e.coded; name = e.name; own = e.own }

-- what is asked of a method that has no code, or of whose number the program has none
pub passed : (p : Program) (frames : Frames) (done : List Method) (m : Method) (nodes : List Node) (ranks : Ranks) → ((b : Body) → m.body ≡ Some b → m.name < length p.methods → ⊥)
    → AreOwns p frames done nodes ranks → AreOwns p frames (done ++ m ∷ []) nodes ranks
passed p frames done m nodes ranks none a = record {
  nodes_long = a.nodes_long;
  ranks_long = a.ranks_long;
  entry = λ m' b c coded lt. elim (Contains-push_cases done m m' c) [
    | inl old ↦ widened p frames done (m ∷ []) nodes ranks m'.name (a.entry m' b old coded lt)
    | inr e ↦ absurd (none b (ap (λ x. x.body) e ∙ coded) (subst (λ x. x.name < length p.methods) (sym e) lt))
  ];
  only = λ k may. widened p frames done (m ∷ []) nodes ranks k (a.only k may);
}

-- an entry of another number stays
kept : (p : Program) (frames : Frames) (done : List Method) (nodes : List Node) (ranks : Ranks) (k n : ℕ) (x : Node) (rs : List (Option ℕ)) → (k ≡ n → ⊥)
    → IsEntry p frames done nodes ranks k → IsEntry p frames done (set nodes n x) (set ranks n rs) k
kept p frames done nodes ranks k n x rs other e = record {
  method = e.method;
  body = e.body;
  in_done = e.in_done;
  coded = e.coded;
  name = e.name;
  own = subst (λ (y : Node). IsOwn p e.body.insns (frames_of frames k) y (ranks_of (set ranks n rs) k)) (sym (get_or-set_other nodes n k x _ other))
      (subst (λ (y : List (Option ℕ)). IsOwn p e.body.insns (frames_of frames k) (node_in nodes k) y) (sym (get_or-set_other ranks n k rs [] other)) e.own);
}

-- the entry of the method that was asked last
now_entry : (p : Program) (frames : Frames) (done : List Method) (m : Method) (b : Body) (nodes : List Node) (ranks : Ranks) (x : Node) (rs : List (Option ℕ)) → m.body ≡ Some b
    → m.name < length nodes → m.name < length ranks → IsOwn p b.insns (frames_of frames m.name) x rs → IsEntry p frames (done ++ m ∷ []) (set nodes m.name x) (set ranks m.name rs) m.name
now_entry p frames done m b nodes ranks x rs coded ln lr own = record {
  method = m;
  body = b;
  in_done = Contains-push done m;
  coded = coded;
  name = refl;
  own = subst (λ (y : Node). IsOwn p b.insns (frames_of frames m.name) y (ranks_of (set ranks m.name rs) m.name)) (sym (get_or-set_same nodes m.name x _ ln))
      (subst (λ (y : List (Option ℕ)). IsOwn p b.insns (frames_of frames m.name) x y) (sym (get_or-set_same ranks m.name rs [] lr)) own);
}

noted_at : (p : Program) (frames : Frames) (done : List Method) (m : Method) (b : Body) (nodes : List Node) (ranks : Ranks) (x : Node) (rs : List (Option ℕ)) → m.body ≡ Some b
    → m.name < length p.methods → IsOwn p b.insns (frames_of frames m.name) x rs → AreOwns p frames done nodes ranks → (k : ℕ)
    → ((k ≡ m.name → ⊥) → IsEntry p frames done nodes ranks k) → IsEntry p frames (done ++ m ∷ []) (set nodes m.name x) (set ranks m.name rs) k
noted_at p frames done m b nodes ranks x rs coded lt own a k old = elim (cases_eq k m.name) [
  | inl e ↦ subst (IsEntry p frames (done ++ m ∷ []) (set nodes m.name x) (set ranks m.name rs)) (sym e)
      (now_entry p frames done m b nodes ranks x rs coded (omega (arith, lt, a.nodes_long)) (omega (arith, lt, a.ranks_long)) own)
  | inr other ↦ widened p frames done (m ∷ []) (set nodes m.name x) (set ranks m.name rs) k (kept p frames done nodes ranks k m.name x rs other (old other))
]

pub noted : (p : Program) (frames : Frames) (done : List Method) (m : Method) (b : Body) (nodes : List Node) (ranks : Ranks) (x : Node) (rs : List (Option ℕ)) → m.body ≡ Some b
    → m.name < length p.methods → IsOwn p b.insns (frames_of frames m.name) x rs → AreOwns p frames done nodes ranks → AreOwns p frames (done ++ m ∷ []) (set nodes m.name x) (set ranks m.name rs)
noted p frames done m b nodes ranks x rs coded lt own a = record {
  nodes_long = length-set nodes m.name x ∙ a.nodes_long;
  ranks_long = length-set ranks m.name rs ∙ a.ranks_long;
  entry = λ m' b' c coded' lt'. elim (Contains-push_cases done m m' c) [
    | inl old ↦ noted_at p frames done m b nodes ranks x rs coded lt own a m'.name (λ other. a.entry m' b' old coded' lt')
    | inr e ↦ noted_at p frames done m b nodes ranks x rs coded lt own a m'.name (λ other. absurd (other (ap (λ y. y.name) (sym e))))
  ];
  only = λ k may. noted_at p frames done m b nodes ranks x rs coded lt own a k (λ other. a.only k (ap (λ (y : Node). y.may) (sym (get_or-set_other nodes m.name k x _ other)) ∙ may));
}

-- ---- the beginning

blank_at : (k n : ℕ) → (node_in (replicate k no_node) n).may ≡ false
blank_at zero n = refl
blank_at (suc k) zero = refl
blank_at (suc k) (suc n) = blank_at k n

nothing_in : (m : Method) → Contains [] m → ⊥
nothing_in m c = omega (arith, c.1)

pub none_yet : (p : Program) (frames : Frames) (ranks : Ranks) → length ranks ≡ length p.methods → AreOwns p frames [] (replicate (length p.methods) no_node) ranks
none_yet p frames ranks long = record {
  nodes_long = length-replicate (length p.methods) no_node;
  ranks_long = long;
  entry = λ m b c coded lt. absurd (nothing_in m c);
  only = λ k may. absurd (false≢true (sym (blank_at (length p.methods) k) ∙ may));
}

-- ---- methods of classes

more_there : (m : Method) (cs : List Class) (c : Class) → ((at : ℕ) × (place : ℕ) × (class : Class) × (slice_get cs at ≡ Some class) × (slice_get class.methods place ≡ Some m))
    → (at : ℕ) × (place : ℕ) × (class : Class) × (slice_get (c ∷ cs) at ≡ Some class) × (slice_get class.methods place ≡ Some m)
more_there m cs c w = (suc w.0, w.1, w.2, w.3, w.4)

get_contained : {X : Type 0} (xs : List X) (x : X) → Contains xs x → (n : ℕ) × (slice_get xs n ≡ Some x)
get_contained xs x c = (c.0, slice_get-get_or xs c.0 x c.1 ∙ ap Some c.2)

there : (cs : List Class) (m : Method) → Contains (methods_of cs) m → (at : ℕ) × (place : ℕ) × (class : Class) × (slice_get cs at ≡ Some class) × (slice_get class.methods place ≡ Some m)
there [] m c = absurd (nothing_in m c)
there (k ∷ cs) m c = elim (Contains-append_cases k.methods (methods_of cs) m c) [
  | inl own ↦ (let w : (n : ℕ) × (slice_get k.methods n ≡ Some m) = get_contained k.methods m own in (0, w.0, k, refl, w.1))
  | inr other ↦ more_there m cs k (there cs m other)
]

contained : {X : Type 0} (xs : List X) (n : ℕ) (x : X) → slice_get xs n ≡ Some x → Contains xs x
contained xs n x h = (n, slice_get_within xs n x h, get_or_from_slice_get xs n x x h)

here : (cs : List Class) (m : Method) (at place : ℕ) (class : Class) → slice_get cs at ≡ Some class → slice_get class.methods place ≡ Some m → Contains (methods_of cs) m
here [] m at place class h g = absurd (false≢true (ap is_some h))
here (k ∷ cs) m zero place class h g = Contains-append_left k.methods (methods_of cs) m (subst (λ l. Contains l m) (own k class h) (contained class.methods place m g))
  where
    own : (k class : Class) → Some k ≡ Some class → class.methods ≡ k.methods
    own k class h = search rules
here (k ∷ cs) m (suc at) place class h g = Contains-append_right k.methods (methods_of cs) m (here cs m at place class h g)

code_of : (p : Program) (m : Method) (b : Body) → Contains (methods_of p.classes) m → m.body ≡ Some b → IsCode p m b
code_of p m b c coded = let w : (at : ℕ) × (place : ℕ) × (class : Class) × (slice_get p.classes at ≡ Some class) × (slice_get class.methods place ≡ Some m) = there p.classes m c in
    record { at = w.0; place = w.1; class = w.2; defines = w.3; there = w.4; coded = coded }

-- ---- the marks

mark_of : (levels : List (Option ℕ)) (k : ℕ) → is_on (map is_some levels) k ≡ is_some (rank_at levels k)
mark_of [] k = refl
mark_of (o ∷ levels) zero = refl
mark_of (o ∷ levels) (suc k) = mark_of levels k

some_of : (o : Option ℕ) → is_some o ≡ true → (r : ℕ) × (o ≡ Some r)
some_of (Some r) h = (r, refl)
some_of None h = absurd (false≢true h)

none_past : (levels : List (Option ℕ)) (k r : ℕ) → rank_at levels k ≡ Some r → k < length levels
none_past [] k r h = absurd (false≢true (ap is_some h))
none_past (o ∷ levels) zero r h = omega arith
none_past (o ∷ levels) (suc k) r h = omega (arith, none_past levels k r h)

-- the node of a number with a level
ranked : (nodes : List Node) (levels : List (Option ℕ)) (k r : ℕ) → IsSettled nodes levels → rank_at levels k ≡ Some r → IsRank levels (node_in nodes k) r
ranked nodes levels k r s h = s.sound k r (node_in nodes k) (slice_get-get_or nodes k _ (omega (arith, none_past levels k r h, s.long))) h

met : (levels : List (Option ℕ)) (level : ℕ) (x : Node) (d : Demand) → IsRank levels x level → IsMetBy x.needs d → IsMet levels level d
met levels level x Nothing i h = tt
met levels level x (Call m) i h = i.needs m h
met levels level x Loud i h = absurd h

quiet_at : (p : Program) (o : Option Frame) (levels : List (Option ℕ)) (level : ℕ) (x : Node) (rs : List (Option ℕ)) (n : ℕ) (i : Insn) → IsRank levels x level → IsCalmAt p o x.needs rs n i
    → IsQuietAt p o levels level rs n i
quiet_at p o levels level x rs n i r c = record { rank = c.rank; is = c.is; short = c.short; met = met levels level x (demand_in p o i) r c.met; lower = c.lower }

is_quiet : (p : Program) (frames : Frames) (nodes : List Node) (ranks : Ranks) (levels : List (Option ℕ)) (k level : ℕ) (b : Body) → IsSettled nodes levels → rank_at levels k ≡ Some level
    → IsOwn p b.insns (frames_of frames k) (node_in nodes k) (ranks_of ranks k) → IsQuietBody p b (frames_of frames k) levels level (ranks_of ranks k)
is_quiet p frames nodes ranks levels k level b s h own =
    let r : IsRank levels (node_in nodes k) level = ranked nodes levels k level s h in
    record { forms = λ n i at. quiet_at p (frame_in (frames_of frames k) n) levels level (node_in nodes k) (ranks_of ranks k) n i r (own.calm r.may n i at) }

-- an unmarked method isn't quiet
unready : (a b : Bool) → (a && b ≡ true → ⊥) → a ≡ true → b ≡ false
unready true true h e = absurd (h refl)
unready true false h e = refl
unready false b h e = absurd (false≢true e)

loud_calls : (p : Program) (b : Body) (fs : List (Option Frame)) (levels : List (Option ℕ)) (x : Node) (rs : List (Option ℕ)) → IsOwn p b.insns fs x rs → list_all (has_rank levels) x.needs ≡ false
    → IsLoudBody p b fs (map is_some levels)
loud_calls p b fs levels x rs own h =
    let w : (n : ℕ) × (n < length x.needs) × (has_rank levels (get_or x.needs n 0) ≡ false) = fails_at (has_rank levels) x.needs 0 h in
    CallsLoud (get_or x.needs w.0 0) (own.called (get_or x.needs w.0 0) (Contains-get_or x.needs w.0 0 w.1)) (mark_of levels (get_or x.needs w.0 0) ∙ w.2)

is_loud : (p : Program) (b : Body) (fs : List (Option Frame)) (nodes : List Node) (levels : List (Option ℕ)) (rs : List (Option ℕ)) (k : ℕ) (may : Bool) → IsSettled nodes levels → k < length nodes
    → has_rank levels k ≡ false → IsOwn p b.insns fs (node_in nodes k) rs → (node_in nodes k).may ≡ may → IsLoudBody p b fs (map is_some levels)
is_loud p b fs nodes levels rs k false s lt off own e = LoudSelf (own.loud e)
is_loud p b fs nodes levels rs k true s lt off own e =
    loud_calls p b fs levels (node_in nodes k) rs own
    (unready (node_in nodes k).may (list_all (has_rank levels) (node_in nodes k).needs) (λ ready. false≢true (sym off ∙ s.closed k (node_in nodes k) (slice_get-get_or nodes k _ lt) ready)) e)

pub quiet : (p : Program) (frames : Frames) (nodes : List Node) (ranks : Ranks) (levels : List (Option ℕ)) → AreOwns p frames (methods_of p.classes) nodes ranks → IsSettled nodes levels
    → AreQuiet p frames (map is_some levels)
quiet p frames nodes ranks levels a s = record {
  levels = levels;
  ranks = ranks;
  long = length-map levels is_some ∙ s.long ∙ a.nodes_long;
  marked = mark_of levels;
  coded = λ k on.
      let r : (r : ℕ) × (rank_at levels k ≡ Some r) = some_of (rank_at levels k) (sym (mark_of levels k) ∙ on) in
      let e : IsEntry p frames (methods_of p.classes) nodes ranks k = a.only k (ranked nodes levels k r.0 s r.1).may in
      (e.method, e.body, code_of p e.method e.body e.in_done e.coded, e.name);
  quiet = λ m b level code alone h.
      let e : IsEntry p frames (methods_of p.classes) nodes ranks m.name = a.only m.name (ranked nodes levels m.name level s h).may in
      let same : (e.method ≡ m) × (e.body ≡ b) = alone e.method e.body (code_of p e.method e.body e.in_done e.coded) e.name in
      is_quiet p frames nodes ranks levels m.name level b s h (subst (λ (x : Body). IsOwn p x.insns (frames_of frames m.name) (node_in nodes m.name) (ranks_of ranks m.name)) same.1 e.own);
  loud = λ m b code alone lt off.
      let e : IsEntry p frames (methods_of p.classes) nodes ranks m.name = a.entry m b (here p.classes m code.at code.place code.class code.defines code.there) code.coded lt in
      let same : (e.method ≡ m) × (e.body ≡ b) = alone e.method e.body (code_of p e.method e.body e.in_done e.coded) e.name in
      is_loud p b (frames_of frames m.name) nodes levels (ranks_of ranks m.name) m.name (node_in nodes m.name).may s (omega (arith, lt, a.nodes_long)) (sym (mark_of levels m.name) ∙ off)
      (subst (λ (x : Body). IsOwn p x.insns (frames_of frames m.name) (node_in nodes m.name) (ranks_of ranks m.name)) same.1 e.own) refl;
}

-- ---- as the loops note it

pub one_more : (p : Program) (frames : Frames) (done ms : List Method) (k : ℕ) (m : Method) (nodes : List Node) (ranks : Ranks) → k < length ms → m ≡ get_or ms k m
    → AreOwns p frames ((done ++ take k ms) ++ m ∷ []) nodes ranks → AreOwns p frames (done ++ take (k + 1) ms) nodes ranks
one_more p frames done ms k m nodes ranks lt e a =
    let more : take k ms ++ m ∷ [] ≡ take (k + 1) ms = ap (λ (x : Method). take k ms ++ x ∷ []) e ∙ sym (take_more ms k m lt) in
    subst (λ (l : List Method). AreOwns p frames l nodes ranks) (append_assoc done (take k ms) (m ∷ []) ∙ ap (λ (l : List Method). done ++ l) more) a

pub all_noted : (p : Program) (frames : Frames) (done ms : List Method) (k : ℕ) (nodes : List Node) (ranks : Ranks) → length ms ≤ k
    → AreOwns p frames (done ++ take k ms) nodes ranks → AreOwns p frames (done ++ ms) nodes ranks
all_noted p frames done ms k nodes ranks le a = subst (λ (l : List Method). AreOwns p frames (done ++ l) nodes ranks) (take_all k ms le) a

pub class_more : (p : Program) (frames : Frames) (cs : List Class) (k : ℕ) (c : Class) (nodes : List Node) (ranks : Ranks) → k < length cs → c ≡ get_or cs k c
    → AreOwns p frames (methods_of (take k cs) ++ c.methods) nodes ranks → AreOwns p frames (methods_of (take (k + 1) cs)) nodes ranks
class_more p frames cs k c nodes ranks lt e a =
    let more : take k cs ++ c ∷ [] ≡ take (k + 1) cs = ap (λ (x : Class). take k cs ++ x ∷ []) e ∙ sym (take_more cs k c lt) in
    let end : methods_of (c ∷ []) ≡ c.methods = append-nil c.methods in
    subst (λ (l : List Method). AreOwns p frames l nodes ranks)
    (ap (λ (l : List Method). methods_of (take k cs) ++ l) (sym end) ∙ sym (flat_map-append (λ (x : Class). x.methods) (take k cs) (c ∷ [])) ∙ ap methods_of more) a

pub classes_noted : (p : Program) (frames : Frames) (cs : List Class) (k : ℕ) (nodes : List Node) (ranks : Ranks) → length cs ≤ k
    → AreOwns p frames (methods_of (take k cs)) nodes ranks → AreOwns p frames (methods_of cs) nodes ranks
classes_noted p frames cs k nodes ranks le a = subst (λ (l : List Class). AreOwns p frames (methods_of l) nodes ranks) (take_all k cs le) a

pub begun : (p : Program) (frames : Frames) (done ms : List Method) (nodes : List Node) (ranks : Ranks) → AreOwns p frames done nodes ranks → AreOwns p frames (done ++ take 0 ms) nodes ranks
begun p frames done ms nodes ranks a = subst (λ (l : List Method). AreOwns p frames l nodes ranks) (sym (append-nil done)) a

pub noted_as : (p : Program) (frames : Frames) (done : List Method) (m : Method) (b : Body) (nodes nodes' : List Node) (ranks ranks' : Ranks) (number : ℕ) (x : Node) (rs : List (Option ℕ)) (is : List Insn)
    (fs : List (Option Frame)) → m.body ≡ Some b → m.name ≡ number → number < length p.methods → is ≡ b.insns → fs ≡ frames_of frames number → IsOwn p is fs x rs → AreOwns p frames done nodes ranks
    → nodes' ≡ set nodes number x → ranks' ≡ set ranks number rs → AreOwns p frames (done ++ m ∷ []) nodes' ranks'
noted_as p frames done m b nodes nodes' ranks ranks' number x rs is fs coded name lt ei ef own a en er =
    let one : IsOwn p b.insns fs x rs = subst (λ (l : List Insn). IsOwn p l fs x rs) ei own in
    let two : IsOwn p b.insns (frames_of frames m.name) x rs = subst (λ (l : List (Option Frame)). IsOwn p b.insns l x rs) (ef ∙ ap (frames_of frames) (sym name)) one in
    let all : AreOwns p frames (done ++ m ∷ []) (set nodes m.name x) (set ranks m.name rs) = noted p frames done m b nodes ranks x rs coded (subst (λ k. k < length p.methods) (sym name) lt) two a in
    let n : set nodes m.name x ≡ nodes' = ap (λ k. set nodes k x) name ∙ sym en in
    let r : set ranks m.name rs ≡ ranks' = ap (λ k. set ranks k rs) name ∙ sym er in
    subst (λ (l : Ranks). AreOwns p frames (done ++ m ∷ []) nodes' l) r (subst (λ (l : List Node). AreOwns p frames (done ++ m ∷ []) l (set ranks m.name rs)) n all)

pub marked : (p : Program) (frames : Frames) (nodes nodes' : List Node) (ranks : Ranks) (levels levels' : List (Option ℕ)) (marks : List Bool) → AreOwns p frames (methods_of p.classes) nodes ranks
    → nodes' ≡ nodes → IsSettled nodes' levels → levels' ≡ levels → marks ≡ map is_some levels' → AreQuiet p frames marks
marked p frames nodes nodes' ranks levels levels' marks a en s el em =
    subst (AreQuiet p frames) (sym (em ∙ ap (map is_some) el)) (quiet p frames nodes ranks levels a (subst (λ (l : List Node). IsSettled l levels) en s))
