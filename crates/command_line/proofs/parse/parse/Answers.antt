use Rattle.std.proofs.Common.{◌≡◌, ◌≢◌, ◌∙◌, ◌∷◌, [], List, ℕ, ap, ap₂, codes, true, false, map, string_bytes, subst, sym}
use Rattle.clap.specs.Matches.{found_of}
use Rattle.clap.specs.Simple.{app_of, is_simple, matches_of}
use Rattle.clap.specs.Faults.{fault_of, is_simple_and_free}
use Rattle.clap.specs.Kinds.{HasKind}
use Rattle.clap.specs.Walk.{rows_of}
use Rattle.command_line.specs.Parsing.{app_for, are_apt, IsParsed}
use Rattle.command_line.proofs.Parsed.{parsed-ok, parsed-err, simple-app, simple-free-app, unapt-said}
use Rattle.command_line.proofs.parse.parse.Goals as goal

pub returns-then-not-are_apt : goal.returns-then-not-are_apt
returns-then-not-are_apt c = unapt-said (map string_bytes c.args.rest.now) (sym c.are_apt.ensures ∙ c.if-not-are_apt.true)

pub returns-in-Ok : goal.returns-in-Ok
returns-in-Ok c =
    let app : app_of c.in_ok-command.field-0 ≡ app_for c.args.name.now = c.in_ok-command.ensures in
    let apt : are_apt (map string_bytes c.args.rest.now) ≡ true = sym c.are_apt.ensures ∙ c.if-not-are_apt.false in
    let none = sym (ap₂ fault_of app c.requires.whole) ∙ c.in-Ok.ensures.kinds (ap is_simple_and_free app ∙ simple-free-app c.args.name.now) in
    let rows = (c.in-Ok.ensures.matches (ap is_simple app ∙ simple-app c.args.name.now)).0 ∙ ap₂ matches_of app c.requires.whole in
    subst (IsParsed (map string_bytes c.args.rest.now)) (sym rows) (parsed-ok c.args.name.now c.args.name.now (map string_bytes c.args.rest.now) apt none)

pub returns : goal.returns
returns c =
    let app : app_of c.in_ok-command.field-0 ≡ app_for c.args.name.now = c.in_ok-command.ensures in
    let apt : are_apt (map string_bytes c.args.rest.now) ≡ true = sym c.are_apt.ensures ∙ c.if-not-are_apt.false in
    let has = c.in-Err.ensures.kinds (ap is_simple_and_free app ∙ simple-free-app c.args.name.now) in
    parsed-err c.args.name.now c.args.name.now (map string_bytes c.args.rest.now) c.in-Err.error apt
    (subst (λ f. HasKind f c.in-Err.error) (ap₂ fault_of app c.requires.whole) has) (c.lacks_memory.ensures c.if-lacks_memory.false)
