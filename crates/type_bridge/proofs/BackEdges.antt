-- What holds of each edge from a position by numbers where something holds of each by names.
use Rattle.std.proofs.Common.{◌≡◌, ℕ, ◌+◌, Bool, true, false, List, [], ◌∷◌, ◌++◌, map, Option, Some, None, refl, sym, ap, ◌∙◌, subst}
use Rattle.std.specs.Prelude.{find, All, if◌then◌else◌}
use Rattle.std.specs.List.{list_all}
use Rattle.std.specs.Option.{option_map}
use Rattle.std.proofs.lemmas.List.Elements.{All-nil, All-cons, All-append}
use Rattle.lemmas.proofs.Lists.{all_first, all_last}
use Rattle.class_defs.proofs.WellFormed.{and_left, and_right}
use Rattle.insn_set.specs.Flow.{throws, goes_on, targets_of}
use Rattle.insn_set.specs.declared.form.Insn.{Insn}
use Rattle.program_model.specs.declared.body.Body.{Body}
use Rattle.program_model.specs.declared.body.Handler.{Handler}
use Rattle.program_model.specs.declared.body.Region.{Region}
use Rattle.program_model.specs.declared.program.Class.{Class}
use Rattle.program_model.specs.declared.program.Method.{Method}
use Rattle.program_model.specs.declared.program.Program.{Program}
use Rattle.dalvik_defs.specs.Naming.{type_at, form_of, handler_of, region_of, body_of, named}
use Rattle.dalvik_defs.specs.declared.program.NamedHandler.{NamedHandler}
use Rattle.pass_defs.specs.Bare.{continues, targets}
use Rattle.pass_defs.specs.Kinds as name
use Rattle.pass_defs.specs.Registers as by_name
use Rattle.pass_defs.specs.Typed as typed
use Rattle.pass_defs.specs.Walks as walks
use Rattle.verify.specs.declared.kinds.Kind as number
use Rattle.verify.specs.declared.kinds.Kind.TheVariants as kind
use Rattle.verify.specs.declared.setting.Setting.{Setting}
use Rattle.verify.specs.declared.tables.Tables.{Tables}
use Rattle.verify.specs.Types.{kind_of}
use Rattle.verify.specs.Typings.{next_if, onward, covers, place_covering, catch_rest, catches_in, region_at, catches}
use Rattle.type_bridge.proofs.Back.{numbered}
use Rattle.type_bridge.proofs.BackFits.{type_of_back}
use Rattle.type_bridge.proofs.Edges.{goes_same, targets_same, throws_same, regions_behind, region_found}
use Rattle.type_bridge.proofs.Grounds.{IsSet}

module _ (s : Setting) (c : Class) (m : Method) (i : IsSet s c m) (b : Body) (n : ℕ) (y : Insn) (before left : by_name.Kinds) (test : ℕ × by_name.Kinds → Bool) where
  abbrev p : Program
  p = s.program.now

  abbrev t : Tables
  t = s.tables.now

  abbrev gone : ℕ → ℕ × by_name.Kinds
  gone q = (q, left)

  abbrev caught_as : name.Kind → by_name.Kinds
  caught_as k = record before { caught = k }

  abbrev caught_to : ℕ × name.Kind → ℕ × by_name.Kinds
  caught_to z = (z.0, record before { caught = z.1 })

  -- the edges by name, with what they carry onward and from before the form
  abbrev pub sent : List (ℕ × by_name.Kinds)
  sent = map gone (walks.onward (form_of p y) n) ++ map caught_to (typed.catches (named p) (body_of p b) n (form_of p y))

  module _ (P : ℕ → Type 0) (Q : ℕ × number.Kind → Type 0) (goes : (q : ℕ) → test (q, left) ≡ true → P q) (caught_one : (q : ℕ) (k : name.Kind) (l : number.Kind) → numbered p k ≡ l → test (q, caught_as k) ≡ true → Q (q, l)) (edges : list_all test sent ≡ true) where
    branches : (qs : List ℕ) → list_all test (map gone qs) ≡ true → All P qs
    branches [] e = All-nil P
    branches (q ∷ qs) e = All-cons P q qs (goes q (and_left _ (list_all test (map gone qs)) e)) (branches qs (and_right (test (q, left)) (list_all test (map gone qs)) e))

    map_append : (xs ys : List ℕ) → map gone (xs ++ ys) ≡ map gone xs ++ map gone ys
    map_append [] ys = refl
    map_append (z ∷ xs) ys = ap (λ zs. gone z ∷ zs) (map_append xs ys)

    next : (g : Bool) → list_all test (map gone (walks.next_position g n)) ≡ true → All P (next_if g (n + 1))
    next true e = branches ((n + 1) ∷ []) e
    next false e = All-nil P

    forward : list_all test (map gone (walks.next_position (goes_on y) n) ++ map gone (targets_of y)) ≡ true
    forward =
        sym (ap (λ l. list_all test l) (map_append (walks.next_position (continues (form_of p y)) n) (targets (form_of p y)))
        ∙ ap (λ g. list_all test (map gone (walks.next_position g n) ++ map gone (targets (form_of p y)))) (goes_same p y)
        ∙ ap (λ l. list_all test (map gone (walks.next_position (goes_on y) n) ++ map gone l)) (targets_same p y))
        ∙ all_first test (map gone (walks.onward (form_of p y) n)) (map (λ (z : ℕ × name.Kind). (z.0, record before { caught = z.1 })) (typed.catches (named p) (body_of p b) n (form_of p y))) edges

    pub goes_back : All P (onward y n)
    goes_back = All-append P (targets_of y) (next_if (goes_on y) (n + 1))
        (branches (targets_of y) (all_last test (map gone (walks.next_position (goes_on y) n)) (map gone (targets_of y)) forward))
        (next (goes_on y) (all_first test (map gone (walks.next_position (goes_on y) n)) (map gone (targets_of y)) forward))

    -- ---- handlers

    abbrev handler_named : NamedHandler → ℕ × name.Kind
    handler_named z = (z.position, name.kind_of (named p) z.kind)

    abbrev handler_numbered : Handler → ℕ × number.Kind
    handler_numbered z = (z.position, kind_of t z.kind)

    abbrev all_caught : List (ℕ × name.Kind) → Bool
    all_caught zs = list_all test (map caught_to zs)

    handlers_all : (hs : List Handler) → all_caught (map handler_named (map (handler_of p) hs)) ≡ true → All Q (map handler_numbered hs)
    handlers_all [] e = All-nil Q
    handlers_all (z ∷ zs) e = All-cons Q (handler_numbered z) (map handler_numbered zs)
        (caught_one z.position (name.kind_of (named p) (type_at p z.kind)) (kind_of t z.kind) (type_of_back p t i.told z.kind) (and_left _ (all_caught (map handler_named (map (handler_of p) zs))) e))
        (handlers_all zs (and_right (test (caught_to (handler_named (handler_of p z)))) (all_caught (map handler_named (map (handler_of p) zs))) e))

    rest_all : (o : Option ℕ) → all_caught (typed.catch_all o) ≡ true → All Q (catch_rest o)
    rest_all None e = All-nil Q
    rest_all (Some q) e = All-cons Q (q, kind.Reference) [] (caught_one q name.Reference kind.Reference refl (and_left _ true e)) (All-nil Q)

    caught_append : (xs ys : List (ℕ × name.Kind)) → map caught_to (xs ++ ys) ≡ map caught_to xs ++ map caught_to ys
    caught_append [] ys = refl
    caught_append (z ∷ xs) ys = ap (λ zs. caught_to z ∷ zs) (caught_append xs ys)

    region_all : (o : Option Region) → all_caught (typed.catches_in (named p) (option_map (region_of p) o)) ≡ true → All Q (catches_in t o)
    region_all None e = All-nil Q
    region_all (Some r) e =
        let hs = map handler_named (map (handler_of p) r.handlers) in
        let f : list_all test (map caught_to hs ++ map caught_to (typed.catch_all r.rest)) ≡ true = sym (ap (list_all test) (caught_append hs (typed.catch_all r.rest))) ∙ e in
        All-append Q (map handler_numbered r.handlers) (catch_rest r.rest)
        (handlers_all r.handlers (all_first test (map caught_to hs) (map caught_to (typed.catch_all r.rest)) f))
        (rest_all r.rest (all_last test (map caught_to hs) (map caught_to (typed.catch_all r.rest)) f))

    caught_by : (g : Bool) → all_caught (if g then typed.catches_in (named p) (walks.region_at (body_of p b) n) else []) ≡ true → All Q (if g then catches_in t (region_at b (place_covering b n)) else [])
    caught_by false e = All-nil Q
    caught_by true e = subst (λ o. All Q (catches_in t o)) (sym (regions_behind n [] b.regions 0 refl))
        (region_all (find (covers n) b.regions) (sym (ap (λ o. all_caught (typed.catches_in (named p) o)) (region_found p n b.regions)) ∙ e))

    pub caught_back : All Q (catches t b y n)
    caught_back = caught_by (throws y)
        (sym (ap (λ g. all_caught (if g then typed.catches_in (named p) (walks.region_at (body_of p b) n) else [])) (throws_same p y))
        ∙ all_last test (map gone (walks.onward (form_of p y) n)) (map caught_to (typed.catches (named p) (body_of p b) n (form_of p y))) edges)
