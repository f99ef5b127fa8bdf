use Rattle.std.proofs.Common.{◌≡◌, ◌≤◌, length, inr, ap, ap₂, sym, subst, ◌∙◌, arith}
use Rattle.std.proofs.lemmas.Result.{err_from_is_err_and}
use Rattle.skein_network.specs.Edges.{colour_at, edges_of}
use Rattle.skein_network.specs.Refusals.{net_labels, net_colour, colour_refusal, fit_refusal}
use Rattle.skein_network.proofs.ListColours.{few_colours, not_refused, or_second}
use Rattle.skein_network.proofs.NetEdges.{edge_colours, edges_coloured}
use Rattle.skein_network.proofs.net.checked_edges.Goals as goal

pub check_fit-requires-clause-few : goal.check_fit-requires-clause-few
check_fit-requires-clause-few c =
    let items = c.args.net.now in
    let colours = c.args.colours.now in
    let labels = c.in_ok-names.ensures.labels in
    let wanted = c.len.ensures in
    let many = not_refused c.args.top c.len.result colours c.in_ok-check_colours.ensures.ok in
    let l = ap length labels in
    let as_many : length colours ≡ length (net_labels items) = (let e = many.0 in omega (arith, e, wanted, l)) in
    let coloured = edges_coloured items colours c.in_ok-names.names.items c.in_ok-edges.edges.items labels as_many (c.in_ok-edges.ensures ∙ ap (λ ns. edges_of ns colours) c.deref.ensures.value) in
    let few = few_colours colours c.in_ok-edges.edges.items c.args.top coloured many.1 c.requires in
    subst (λ es. (label : _) → colour_at es label ≤ 8) (sym c.deref-2.ensures.value) few

pub returns-clause-fits : goal.returns-clause-fits
returns-clause-fits c =
    let items = c.args.net.now in
    let colours = c.args.colours.now in
    let labels = c.in_ok-names.ensures.labels in
    let wanted = c.len.ensures in
    let l = ap length labels in
    let long : c.len.result ≡ length (net_labels items) = omega (arith, wanted, l) in
    let none = sym (ap (λ n. colour_refusal c.args.top n colours) long) ∙ c.in_ok-check_colours.ensures.ok in
    let many = not_refused c.args.top (length (net_labels items)) colours none in
    let path = edge_colours items colours c.in_ok-names.names.items c.in_ok-edges.edges.items labels many.0 (c.in_ok-edges.ensures ∙ ap (λ ns. edges_of ns colours) c.deref.ensures.value) in
    let fit = sym (ap₂ fit_refusal (ap colour_at c.deref-2.ensures.value ∙ path) (c.items.ensures.items ∙ c.net.ensures.net)) ∙ c.in_ok-check_fit.ensures.ok in
    or_second (colour_refusal c.args.top (length (net_labels items)) colours) (fit_refusal (net_colour items colours) items) none ∙ fit

pub returns-in_err-check_fit-clause-refused : goal.returns-in_err-check_fit-clause-refused
returns-in_err-check_fit-clause-refused c =
    let items = c.args.net.now in
    let colours = c.args.colours.now in
    let labels = c.in_ok-names.ensures.labels in
    let wanted = c.len.ensures in
    let l = ap length labels in
    let long : c.len.result ≡ length (net_labels items) = omega (arith, wanted, l) in
    let none = sym (ap (λ n. colour_refusal c.args.top n colours) long) ∙ c.in_ok-check_colours.ensures.ok in
    let many = not_refused c.args.top (length (net_labels items)) colours none in
    let path = edge_colours items colours c.in_ok-names.names.items c.in_ok-edges.edges.items labels many.0 (c.in_ok-edges.ensures ∙ ap (λ ns. edges_of ns colours) c.deref.ensures.value) in
    let fit = sym (ap₂ fit_refusal (ap colour_at c.deref-2.ensures.value ∙ path) (c.items.ensures.items ∙ c.net.ensures.net)) ∙ c.in_err-check_fit.ensures.refused in
    let p = err_from_is_err_and c.from_residual-in_err-check_fit.result c.from_residual-in_err-check_fit.ensures.1 in
    rw (p.1, p.2) (inr (or_second (colour_refusal c.args.top (length (net_labels items)) colours) (fit_refusal (net_colour items colours) items) none ∙ fit))
