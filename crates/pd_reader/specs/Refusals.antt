-- How bytes are refused as a diagram or as a net, and what they are read as. (This project's own.)
--
--     IsPdRefusal bytes fault     a refusal of bytes that want of memory apart says what they are
--     IsPdReading bytes result    the bytes are a text of these items of a diagram, or are refused for that fault
--
-- IsNetRefusal and IsNetReading are the same for a net.
use Rattle.std.specs.Prelude.{ℕ, List, Result}
use Rattle.std.specs.List.{AllByRecursion}
use Rattle.pd_reader.specs.declared.item.Item.{Item}
use Rattle.pd_reader.specs.declared.item.NetItem.{NetItem}
use Rattle.pd_reader.specs.declared.fault.TextFault.{TextFault}
use Rattle.pd_reader.specs.Answers.{IsRefusal, IsReadAs}
use Rattle.pd_reader.specs.Diagrams.{refusal}
use Rattle.pd_reader.specs.Faults.{cause}
use Rattle.pd_reader.specs.Items.{item_labels, net_item_labels}
use Rattle.pd_reader.specs.Texts.{IsTextItem, pd_tokens, IsTextNetItem, net_tokens}

abbrev pub IsPdRefusal : List ℕ → TextFault → Type 0
IsPdRefusal bytes fault = IsRefusal (AllByRecursion IsTextItem) pd_tokens (refusal item_labels) bytes (cause fault)

abbrev pub IsNetRefusal : List ℕ → TextFault → Type 0
IsNetRefusal bytes fault = IsRefusal (AllByRecursion IsTextNetItem) net_tokens (refusal net_item_labels) bytes (cause fault)

abbrev pub IsPdReading : List ℕ → Result (List Item) TextFault → Type 0
IsPdReading = IsReadAs (AllByRecursion IsTextItem) pd_tokens (refusal item_labels) cause

abbrev pub IsNetReading : List ℕ → Result (List NetItem) TextFault → Type 0
IsNetReading = IsReadAs (AllByRecursion IsTextNetItem) net_tokens (refusal net_item_labels) cause
