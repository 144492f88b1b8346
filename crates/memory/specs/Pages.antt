-- Pages and addresses.
--   page_start   the address of a page's first byte
use Rattle.std.specs.Prelude.{◌*◌}
use Rattle.memory.specs.declared.address.Page.{Page}
use Rattle.memory.specs.declared.address.Address.{Address}

abbrev pub page_start : Page → Address
page_start p = record { 0 = p.0 * 256 }
