-- Which colours have no cable, and how a list of colours is read.
--
--     first_above top colours              the first colour of the list past the top
--     colour_refusal top wanted colours    not as many colours as wanted, or else the first one past the top
--     net_labels items                     the labels of a net, each once, increasing
--     net_colour items colours label       the colour of a label: the list has one for each label, in increasing order of labels
--     net_refusal top items colours        the first reason why the colours don't fit a net
--     IsNoInverse p n fault                there is no projector of colour n, and the fault names the first index and the divisor
use Rattle.std.specs.Prelude.{ℕ, ◌==◌, nat_lt, if◌then◌else◌, List, [], ◌∷◌, length, slice_index, Option, Some, None, option_map}
use Rattle.std.specs.Option.{option_or}
use Rattle.root_quantum.specs.Parameters.{Parameters}
use Rattle.pd_reader.specs.declared.item.NetItem.{NetItem}
use Rattle.pd_reader.specs.Items.{net_item_labels}
use Rattle.pd_reader.specs.Diagrams.{labels}
use Rattle.planar_check.specs.Components.{distinct, rank}
use Rattle.cables.specs.Nets.{first_unequal, first_inadmissible}
use Rattle.wenzl_table.specs.Inverses.{IsFirstCommon}
use Rattle.skein_network.specs.declared.fault.CableFault.{CableFault}
use Rattle.skein_network.specs.declared.fault.CableFault.TheVariants.{ColourCount, ColourTooLarge, Unequal, NotAdmissible, NoInverse}

-- The first colour past the top.
abbrev pub first_above : ℕ → List ℕ → Option ℕ
first_above top [] = None
first_above top (colour ∷ colours) = if nat_lt top colour then Some colour else first_above top colours

-- Not as many colours as wanted, or else the first one past the top.
abbrev pub colour_refusal : ℕ → ℕ → List ℕ → Option CableFault
colour_refusal top wanted colours =
    if length colours == wanted then option_map (λ colour. ColourTooLarge colour top) (first_above top colours) else Some (ColourCount (length colours) wanted)

-- The labels of a net, each once, increasing.
abbrev pub net_labels : List NetItem → List ℕ
net_labels items = distinct (labels net_item_labels items)

-- The colour of a label.
abbrev pub net_colour : List NetItem → List ℕ → ℕ → ℕ
net_colour items colours label = slice_index colours (rank (net_labels items) label)

-- The first crossing that changes a colour, or else the first vertex that isn't admissible.
abbrev pub fit_refusal : (ℕ → ℕ) → List NetItem → Option CableFault
fit_refusal colour items = option_or (option_map Unequal (first_unequal colour items)) (option_map NotAdmissible (first_inadmissible colour 1 items))

-- The first reason why the colours don't fit a net.
abbrev pub net_refusal : ℕ → List NetItem → List ℕ → Option CableFault
net_refusal top items colours = option_or (colour_refusal top (length (net_labels items)) colours) (fit_refusal (net_colour items colours) items)

-- There is no projector of colour n.
abbrev pub IsNoInverse : Parameters → ℕ → CableFault → Type 0
IsNoInverse p n (NoInverse index common) = IsFirstCommon p n index common
IsNoInverse p n fault = ⊥
