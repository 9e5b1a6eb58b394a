use Rattle.hpack_codec.proofs.Blocks.{static_is_found}
use Rattle.hpack_codec.proofs.search_table.SearchTable.find.Goals as goal

pub returns-in_default-find : goal.returns-in_default-find
returns-in_default-find c =
    static_is_found c.args.self.now c.find.result c.args.name.now c.args.value.now c.find.ensures
