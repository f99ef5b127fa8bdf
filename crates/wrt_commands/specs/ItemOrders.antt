-- Orders of the items of a diagram, as a list of their numbers. (This project's own.)
--
--     is_listing items list          the list has the numbers 1 to `items`, each once
--     is_order_of items order        the order is no list, or is one of so many items
--
-- 3, 1, 2 is a listing of three items, and of no other number of them; the empty list is one of no item.
use Rattle.std.specs.Prelude.{◌&&◌, ◌==◌, ℕ, Bool, true, List, length}
use Rattle.std.specs.List.{list_all, range_with_len}
use Rattle.list_lemmas.specs.Times.{times_in}
use Rattle.wrt_request.specs.declared.order.OrderWord.{OrderWord}
use Rattle.wrt_request.specs.declared.order.OrderWord.TheVariants.{Listed, Greedy, Given}

-- As many numbers as items, and each item's number once.
abbrev pub is_listing : ℕ → List ℕ → Bool
is_listing items list = length list == items && list_all (λ item. times_in list item == 1) (range_with_len 1 items)

-- A list names each item once; the other orders need no list.
abbrev pub is_order_of : ℕ → OrderWord → Bool
is_order_of items Listed = true
is_order_of items Greedy = true
is_order_of items (Given list) = is_listing items list
