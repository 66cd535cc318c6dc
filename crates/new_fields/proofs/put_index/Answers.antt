use Rattle.new_fields.proofs.Laws.{index_none, index_some}
use Rattle.new_fields.proofs.put_index.Goals as goal

pub returns-in-Some-new_index : goal.returns-in-Some-new_index
returns-in-Some-new_index c = index_some _ _ _ _ _ c.args.x.size _ _ _ c.text_index.ensures _ c.in-Some.is c.new_index.ensures _ _ c.in-Some-new_index.is c.store.ensures

pub returns-in_default-new_index : goal.returns-in_default-new_index
returns-in_default-new_index c = index_none _ _ _ _ _ c.args.x.size _ _ _ c.text_index.ensures _ c.in-Some.is c.new_index.ensures c.in_default-new_index.is
