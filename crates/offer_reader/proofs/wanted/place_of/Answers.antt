use Rattle.offer_reader.proofs.GoodPlaces.{good_place}
use Rattle.offer_reader.proofs.wanted.place_of.Goals as goal

pub returns : goal.returns
returns c = good_place _ c.goods-goods.ensures.kept.rising _ _ c.good_of.ensures
