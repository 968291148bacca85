use Rattle.std.specs.Prelude.{ℕ, List, take, drop}
use Rattle.subfile.specs.declared.window.Window.{Window}

-- the bytes that are ready, and those that are compared
unfoldable pub ready_of : Window → List ℕ
ready_of w = drop w.from (take w.ready w.bytes)

unfoldable pub compared_of : Window → List ℕ
compared_of w = drop w.ready (take w.all w.bytes)

-- how many of the 16 places are filled or were
unfoldable pub filled_of : Window → ℕ
filled_of w = w.all
