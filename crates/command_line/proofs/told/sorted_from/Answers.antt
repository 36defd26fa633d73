use Rattle.std.proofs.Common.{◌≡◌, ◌∙◌, Some, None, ap, codes, length, map, option_map, refl, rules, string_bytes, sym}
use Rattle.clap.specs.Matches.{found_of}
use Rattle.clap.specs.Walk.{rows_of}
use Rattle.command_line.specs.Parsing.{listed, tells_in}
use Rattle.command_line.specs.Reading.{numbers_of}
use Rattle.command_line.proofs.Telling.{sorted-found, sorted-lost}
use Rattle.command_line.proofs.told.sorted_from.Goals as goal

pub returns-in_default : goal.returns-in_default
returns-in_default c =
    let none : numbers_of (listed (codes "at-most") (rows_of (found_of c.args.matches.now))) ≡ None =
    ap numbers_of (sym (c.as_slice.ensures.value ∙ c.in_ok-at_mosts.ensures)) ∙ sym c.in_ok-numbers.ensures ∙ ap (option_map (λ v. v.items)) c.in_default.is in
    sorted-lost (map string_bytes c.args.words.now) (rows_of (found_of c.args.matches.now)) c.requires none

pub returns : goal.returns
returns c =
    let some : numbers_of (listed (codes "at-most") (rows_of (found_of c.args.matches.now))) ≡ Some c.in-Some.numbers.items =
    ap numbers_of (sym (c.as_slice.ensures.value ∙ c.in_ok-at_mosts.ensures)) ∙ sym c.in_ok-numbers.ensures ∙ ap (option_map (λ v. v.items)) c.in-Some.is in
    let plain : c.of_vec.result ≡ listed (codes "operand") (rows_of (found_of c.args.matches.now)) = c.of_vec.ensures ∙ c.in_ok-plain.ensures in
    let tells : c.of_vec-2.result ≡ tells_in (map string_bytes c.args.words.now) (listed (codes "spare") (rows_of (found_of c.args.matches.now))) c.in-Some.numbers.items =
    c.of_vec-2.ensures ∙ c.in_ok-tells.ensures ∙ ap (λ ss. tells_in (map string_bytes c.args.words.now) ss c.in-Some.numbers.items) c.in_ok-spares.ensures in
    let inlined : c.len.result ≡ length c.in_ok-inlines.inlines.items = search rules in
    let inlines : c.len.result ≡ length (listed (codes "inline") (rows_of (found_of c.args.matches.now))) = inlined ∙ ap length c.in_ok-inlines.ensures in
    let libraries : c.of_vec-3.result ≡ listed (codes "library") (rows_of (found_of c.args.matches.now)) = c.of_vec-3.ensures ∙ c.in_ok-libraries.ensures in
    sorted-found (map string_bytes c.args.words.now) (rows_of (found_of c.args.matches.now)) c.in-Some.numbers.items _ c.requires some (rw (plain, tells, inlines, libraries) refl)
